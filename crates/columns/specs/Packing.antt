-- Why a list has no bytes, or bytes no list.
use Rattle.std.specs.Prelude.{◌≡◌, ℕ, Err, Result}
use Rattle.column.specs.declared.fault.Fault.{Fault}
use Rattle.columns.specs.declared.packing.PackError.{PackError}
use Rattle.columns.specs.declared.packing.PackError.TheVariants.{Memory, Refused}

-- there was no memory, or this is what the column kind answered
abbrev pub Fails : Result ℕ Fault → PackError → Type 0
Fails answered Memory = Unit {0}
Fails answered (Refused fault) = answered ≡ Err fault
