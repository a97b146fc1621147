-- Two documents that were written out, compared by their bytes.
use Rattle.std.specs.Prelude.{◌≡◌, ℕ, Bool, List, take, Decides, Option, Some, None, Ok, Err, Result}
use Rattle.column.specs.Meaning.{Meaning}
use Rattle.document.specs.declared.refusals.Refusal.{Refusal}
use Rattle.document.specs.Calls.{Call}
use Rattle.document.specs.Theorems.{AskedAlike}
use Rattle.ser.specs.Standing.{WrittenOut}

-- two documents are written out one after the other, into an output each, with one scratch
abbrev pub WroteBoth : Meaning → List Call → List Call → List ℕ → List ℕ → List ℕ → List ℕ → List ℕ → List ℕ → Result ℕ Refusal → Result ℕ Refusal → Type 0
WroteBoth col cs ds scratch scratch' one one' other other' r s =
    (between : List ℕ) × WrittenOut col cs scratch between one one' r × WrittenOut col ds between scratch' other other' s

-- whether the documents that begin these outputs are the same bytes, where both were written out
abbrev pub SameBytes : Result ℕ Refusal → Result ℕ Refusal → List ℕ → List ℕ → Option Bool → Type 0
SameBytes (Ok n) (Ok m) one other a = (b : Bool) × (a ≡ Some b) × Decides b (take n one ≡ take m other)
SameBytes (Ok n) (Err e) one other a = a ≡ None
SameBytes (Err e) s one other a = a ≡ None

-- that tells whether the calls are the same, where they are asked alike
abbrev pub ToldApart : List Call → List Call → Option Bool → Type 0
ToldApart cs ds a = (b : Bool) → a ≡ Some b → AskedAlike cs ds → Decides b (cs ≡ ds)
