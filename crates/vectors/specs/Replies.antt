-- Stored answers with their numbers.
use Rattle.std.specs.Prelude.{◌≡◌, ◌≤◌, ℕ, List, length, take, Some, None, Ok, Err, Result, vec_items}
use Rattle.std.specs.declared.alloc.Global.{Global}
use Rattle.std.specs.declared.vec.Vec.{Vec}
use Rattle.document.specs.declared.questions.Answer.{Answer}
use Rattle.document.specs.declared.refusals.Refusal.{Refusal}
use Rattle.document.specs.declared.refusals.Refusal.TheVariants as refusals
use Rattle.document.specs.Refusals.{number_of}
use Rattle.replay.specs.Says.{Says}
use Rattle.vectors.specs.declared.calls.Told.{Told}
use Rattle.vectors.specs.declared.replies.Refused.{Refused}
use Rattle.vectors.specs.Spoken.{said_by}

-- a refusal as it is stored: its number, and for a column's fault the column and the layer
abbrev pub refused_by : Refusal → Refused
refused_by (refusals.Short layer column) = record { number = 8; fault = Some (record { column = column; layer = layer }) }
refused_by (refusals.Bad layer column) = record { number = 9; fault = Some (record { column = column; layer = layer }) }
refused_by r = record { number = number_of r; fault = None }

-- an answer without a value is the stored one
abbrev pub SameAnswer : Result (Unit {0}) Refusal → Result (Unit {0}) Refused → Type 0
SameAnswer (Ok u) (Ok v) = Unit {0}
SameAnswer (Err r) (Err stored) = refused_by r ≡ stored
SameAnswer _ _ = ⊥

-- the answer to a question is the stored value, or the stored refusal
abbrev pub SaysReply : Result Answer Refusal → Result Told Refused → List ℕ → Type 0
SaysReply (Ok a) (Ok told) input = Says a (said_by told) input
SaysReply (Err r) (Err stored) input = refused_by r ≡ stored
SaysReply _ _ input = ⊥

-- write-out's answer is the number of the stored bytes, which the output begins with, or the stored refusal
abbrev pub SameOutput : Result ℕ Refusal → Result (Vec ℕ Global) Refused → List ℕ → Type 0
SameOutput (Ok size) (Ok bytes) output = (size ≤ length output) × (take size output ≡ vec_items bytes)
SameOutput (Err r) (Err stored) output = refused_by r ≡ stored
SameOutput _ _ output = ⊥
