use Rattle.std.proofs.Common.{length}
use Rattle.column.proofs.OneByOne.{Reading}
use Rattle.column.proofs.coded.AnyColumn.read.Given as goal

abbrev pub invariant-loop-value : goal.invariant-loop-value
invariant-loop-value g l = Reading (g.F.Code.one l.self l.width) (length l.initial.values) l.input l.place l.value-index l.at l.values
