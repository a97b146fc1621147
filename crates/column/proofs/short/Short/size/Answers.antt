use Rattle.std.proofs.Common.{length, ap, arith}
use Rattle.column.proofs.Leb128.{leb_small, leb-more}
use Rattle.column.specs.Laws.Short.{leb-fewest, length-leb}
use Rattle.column.proofs.short.Short.size.Goals as goal

pub loop-left-preserved : goal.loop-left-preserved
loop-left-preserved c =
    let more = ap length (leb-more c.loop-left.left c.loop-left-test.true c.loop-left.invariant.1) in
    (omega (arith, more, c.loop-left.invariant.0), omega (arith, c.loop-left.invariant.1))

pub returns : goal.returns
returns c =
    let last = ap length (leb_small c.loop-left.left c.loop-left-test.false) in
    record { size = omega (arith, last, c.loop-left.invariant.0); fewest = leb-fewest c.args.value (omega (arith, c.ranges.value)) }

pub overflow_add-size : goal.overflow_add-size
overflow_add-size c = omega (arith, length-leb c.args.value, c.loop-left.invariant.0)
