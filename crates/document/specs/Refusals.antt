-- The numbers of refusals.
use Rattle.std.specs.Prelude.{ℕ}
use Rattle.column.specs.declared.fault.Fault.{Fault}
use Rattle.column.specs.declared.fault.Cause.{Cause}
use Rattle.column.specs.declared.fault.Cause.TheVariants.{Room as NoRoom, Short as TooShort, Bad as NoValue}
use Rattle.document.specs.declared.refusals.Refusal.{Refusal}
use Rattle.document.specs.declared.refusals.Refusal.TheVariants.{Complete, Count, Depth, Kind, Index, Nodes, Cells, Short, Past, Bad, Sum, Text, TextTable, Option, NoSize, Early, Scratch, Room, Left}

-- a refusal's number
abbrev pub number_of : Refusal → ℕ
number_of Complete = 1
number_of Count = 2
number_of Depth = 3
number_of Kind = 4
number_of Index = 5
number_of Nodes = 6
number_of Cells = 7
number_of (Short layer column) = 8
number_of Past = 8
number_of (Bad layer column) = 9
number_of Sum = 10
number_of Text = 11
number_of TextTable = 12
number_of Option = 13
number_of NoSize = 14
number_of Early = 15
number_of Scratch = 16
number_of Room = 17
number_of Left = 18

-- what a column's fault becomes
abbrev pub of_cause : Cause → ℕ → ℕ → Refusal
of_cause NoRoom layer column = Room
of_cause TooShort layer column = Short layer column
of_cause NoValue layer column = Bad layer column

-- .. with its layer, and the column's number
abbrev pub of_fault : Fault → ℕ → Refusal
of_fault fault column = of_cause fault.cause fault.layer column
