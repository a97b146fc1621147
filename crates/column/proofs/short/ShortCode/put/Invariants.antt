use Rattle.column.proofs.Leb128.{Grouping}
use Rattle.column.proofs.short.ShortCode.put.Given as goal

abbrev pub invariant-loop-k : goal.invariant-loop-k
invariant-loop-k l = Grouping l.value l.initial.room l.rest l.k l.room
