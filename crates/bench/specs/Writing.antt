-- A document that was written.
use Rattle.std.specs.Prelude.{◌≡◌, ℕ, List, take, Ok, Result}
use Rattle.column.specs.Meaning.{Meaning}
use Rattle.document.specs.declared.refusals.Refusal.{Refusal}
use Rattle.document.specs.Calls.{Call}
use Rattle.document.specs.Bytes.{bytes}
use Rattle.document.specs.WriteOut.{write_out}

-- what write-out answers with a scratch and an output of these lengths; the output begins with the calls' bytes where it answers how many they are
pub record Wrote (col : Meaning) (cs : List Call) (scratch output : ℕ) (output' : List ℕ) (r : Result ℕ Refusal) : Type 0 where
  pub answer : r ≡ write_out col cs scratch output
  pub written : (n : ℕ) → r ≡ Ok n → take n output' ≡ bytes col cs
