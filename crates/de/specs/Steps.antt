-- One question, as the code goes about it: by the innermost place's state.
use Rattle.std.specs.Prelude.{◌≡◌, ℕ, Bool, cond, List, Ok, Err, Result, ◌==◌}
use Rattle.std.specs.declared.option.Option.TheVariants as options
use Rattle.column.specs.Meaning.{Meaning}
use Rattle.document.specs.declared.refusals.Refusal.{Refusal}
use Rattle.document.specs.declared.refusals.Refusal.TheVariants as refusals
use Rattle.document.specs.declared.questions.Answer.TheVariants as answers
use Rattle.document.specs.declared.questions.Question.{Question}
use Rattle.document.specs.declared.questions.Question.TheVariants as questions
use Rattle.nodes.specs.declared.places.State.{State}
use Rattle.nodes.specs.declared.places.State.TheVariants.{Root, Closing}
use Rattle.nodes.specs.Ahead.{Ahead, nowhere, there, ahead, is_full}
use Rattle.nodes.specs.Stack.{top, turned, replaced}
use Rattle.de.specs.declared.desk.Desk.{Desk}
use Rattle.de.specs.declared.heard.Heard.{Heard}
use Rattle.de.specs.Moves.{Sheets, sheets}
use Rattle.de.specs.Served.{Readable, Responded}

-- what a step does: it refuses; it closes the place; it asks the document's value of record 1; or it asks a value of a record, and the place's state is another then
pub data Plan : Type 0 where
  declines : Refusal → Plan
  closes begins : Plan
  asks : ℕ → State → Plan

-- a question where the next value stands: none is to come, or a record is asked for it
abbrev pub on_ahead : Ahead → Plan
on_ahead nowhere = declines refusals.Count
on_ahead (there r s) = asks r s

-- a question that asks for a value, in each state
abbrev pub on_question : State → Plan
on_question Root = begins
on_question s = on_ahead (ahead s)

-- a question in each state
abbrev pub plan : State → Question → Plan
plan s (questions.Scalar k) = on_question s
plan s questions.Text = on_question s
plan s questions.Unit = on_question s
plan s questions.Option = on_question s
plan s questions.Variant = on_question s
plan s (questions.Seq flag) = on_question s
plan s (questions.Map flag) = on_question s
plan s (questions.Tuple n) = on_question s
plan s questions.End = cond (is_full s) closes (declines refusals.Count)

-- the record that is asked is a node's
abbrev pub Aims : List ℕ → Sheets → Plan → Type 0
Aims input T (declines e) = Unit {0}
Aims input T closes = Unit {0}
Aims input T begins = Readable input T 1
Aims input T (asks r s) = Readable input T r

-- no further place can be opened
abbrev pub is_deep : Desk → Bool
is_deep d = d.places.depth == 32

-- an answer with no place to be opened
abbrev pub shut : Result Heard Refusal → Result Heard Refusal
shut (Ok x) = Ok (record { answer = x.answer; opened = options.None })
shut (Err e) = Err e

-- the state of the document's place after an answer; a refusal leaves it
abbrev pub begun : State → Result Heard Refusal → State
begun s (Ok x) = replaced x.opened
begun s (Err e) = s

-- the state of another place
abbrev pub counted : State → State → Result Heard Refusal → State
counted s t (Ok x) = t
counted s t (Err e) = s

-- what the step did
abbrev pub Took : Meaning → List ℕ → Question → Bool → Desk → Desk → Result Heard Refusal → Plan → Type 0
Took col input q deep old new res (declines e) = (res ≡ Err e) × (new.tables ≡ old.tables) × (new.places ≡ turned old.places (top old.places))
Took col input q deep old new res closes = (res ≡ Ok (record { answer = answers.End; opened = options.None })) × (new.tables ≡ old.tables) × (new.places ≡ turned old.places Closing)
Took col input q deep old new res begins =
    (x : Result Heard Refusal) × (res ≡ shut x) × Responded col input 1 q deep (sheets old.tables) (sheets new.tables) x × (new.places ≡ turned old.places (begun (top old.places) x))
Took col input q deep old new res (asks r t) = Responded col input r q deep (sheets old.tables) (sheets new.tables) res × (new.places ≡ turned old.places (counted (top old.places) t res))
