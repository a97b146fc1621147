-- The bytes of a document, or why there are none.
use Rattle.std.specs.Prelude.{◌≡◌, ℕ, ◌⊎◌, List, [], Err, Result}
use Rattle.document.specs.declared.refusals.Refusal.{Refusal}
use Rattle.column.specs.Meaning.{Meaning}
use Rattle.document.specs.Calls.{Call}
use Rattle.document.specs.Bytes.{bytes}
use Rattle.document.specs.Verdict.{Sizes, Accepted, Done}
use Rattle.ser.specs.declared.desk.Desk.{Desk}
use Rattle.states.specs.declared.message.MessageError.{MessageError}
use Rattle.states.specs.declared.message.MessageError.TheVariants.{Memory, Refused}
use Rattle.states.specs.Adding.{Stopped}

-- a message is the bytes of these calls, which a writer over tables of these lengths accepts, and which are complete
pub record Conveys (sizes : Sizes) (col : Meaning) (cs : List Call) (message : List ℕ) : Type 0 where
  pub accepted : Accepted sizes cs
  pub complete : Done cs
  pub bytes_are : message ≡ bytes col cs

-- there was no memory, or this is what write-out answered
abbrev pub Fails : Result ℕ Refusal → MessageError → Type 0
Fails wrote Memory = Unit {0}
Fails wrote (Refused r) = wrote ≡ Err r

-- .. or a writer over tables of these lengths refused one of the calls
abbrev pub SendFails : Sizes → Result ℕ Refusal → List Call → MessageError → Type 0
SendFails sizes wrote cs Memory = Unit {0}
SendFails sizes wrote cs (Refused r) = ((d : Desk) × Stopped sizes d [] cs r) ⊎ (wrote ≡ Err r)
