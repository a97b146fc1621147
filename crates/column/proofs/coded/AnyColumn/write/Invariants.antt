use Rattle.column.proofs.OneByOne.{Putting}
use Rattle.column.proofs.coded.AnyColumn.write.Given as goal

abbrev pub invariant-loop-value : goal.invariant-loop-value
invariant-loop-value g l = Putting (g.F.Code.code l.self l.width) l.value-items l.place l.initial.output l.value-index l.at l.output
