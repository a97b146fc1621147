-- Words of the data files.
use Rattle.std.specs.Prelude.{◌≢◌, ℕ, ◌-◌, ◌&&◌, List, codes, Option, Some, None, if◌then◌else◌, nat_le}
use Rattle.cases.specs.declared.kind.Kind.{Kind}
use Rattle.cases.specs.declared.kind.Kind.TheVariants.{Flat, Short, StepsFlat, StepsShort, StepsStepsFlat, StepsStepsShort}

-- the value of a hexadecimal digit, which is no capital letter
abbrev pub digit_of : ℕ → Option ℕ
digit_of letter =
    if nat_le 48 letter && nat_le letter 57
    then Some (letter - 48)
    else (if nat_le 97 letter && nat_le letter 102 then Some (letter - 87) else None)

-- a kind's name
abbrev pub name_of : Kind → List ℕ
name_of Flat = codes "flat"
name_of Short = codes "short"
name_of StepsFlat = codes "steps/flat"
name_of StepsShort = codes "steps/short"
name_of StepsStepsFlat = codes "steps/steps/flat"
name_of StepsStepsShort = codes "steps/steps/short"

-- no kind has this name
abbrev pub IsNoName : List ℕ → Type 0
IsNoName name = (kind : Kind) → name ≢ name_of kind
