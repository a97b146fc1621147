-- A list of calls given to one new writer.
use Rattle.std.specs.Prelude.{Bool, cond, List, [], ◌∷◌, ◌++◌, length, map as each, is_ok, vec_items}
use Rattle.document.specs.Calls.{Call}
use Rattle.document.specs.Said.{said}
use Rattle.document.specs.Verdict.{Sizes, verdict}
use Rattle.ser.specs.declared.desk.Desk.{Desk}
use Rattle.ser.specs.declared.writer.Writer.{Writer}
use Rattle.ser.specs.declared.writer.calls.Parts.{Parts}
use Rattle.ser.specs.Moves.{sheets}
use Rattle.ser.specs.Tables.{sizes_of}
use Rattle.replay.specs.declared.steps.Step.{Step}

-- the calls of some steps
abbrev pub calls_of : List Step → List Call
calls_of ss = each (λ s. said s.call) ss

-- whether a call is accepted after those of a list
abbrev pub takes : Sizes → List Call → Call → Bool
takes sizes done c = is_ok (verdict sizes done c)

-- the list once a call was given: longer by the call where it is accepted
abbrev pub given : Sizes → List Call → Call → List Call
given sizes done c = cond (takes sizes done c) (done ++ c ∷ []) done

-- the list of accepted calls, once these were given after those
abbrev pub kept : Sizes → List Call → List Call → List Call
kept sizes done [] = done
kept sizes done (c ∷ cs) = kept sizes (given sizes done c) cs

-- a writer's desk, and the lengths of its tables
abbrev pub desk_of : Writer → Desk
desk_of w = w.desk

abbrev pub sizes_at : Writer → Sizes
sizes_at w = sizes_of (sheets w.desk.tables)

-- the lengths of tables
abbrev pub sizes_for : Parts → Sizes
sizes_for t = record { nodes = length (vec_items t.nodes); cells = length (vec_items t.cells); text = length (vec_items t.text) }

-- the steps, each marked with whether its call was accepted
abbrev pub marked : Sizes → List Call → List Step → List Step
marked sizes done [] = []
marked sizes done (s ∷ ss) = record { call = s.call; no_size = s.no_size; accepted = takes sizes done (said s.call) } ∷ marked sizes (given sizes done (said s.call)) ss

-- the steps, marked with what a new writer over these tables answers
abbrev pub marked_for : Parts → List Step → List Step
marked_for tables ss = marked (sizes_for tables) [] ss

-- the calls of some steps that a new writer over these tables accepts
abbrev pub accepted_calls : Parts → List Step → List Call
accepted_calls tables ss = kept (sizes_for tables) [] (calls_of ss)
