use Rattle.std.proofs.Common.{length, ap, Some, refl, arith}
use Rattle.std.proofs.lemmas.Bool.{le-leb, lt-leb}
use Rattle.column.specs.Short.{leb128}
use Rattle.column.proofs.Leb128.{grouping-more, grouping-last, grouping-none}
use Rattle.column.proofs.short.ShortCode.put.Goals as goal

pub returns-then-is_last : goal.returns-then-is_last
returns-then-is_last c =
    let last = grouping-last c.args.value c.args.room.now c.loop-k.rest c.loop-k.k c.loop-k.room c.if-is_last.true (omega (arith, c.loop-k.invariant.3)) c.loop-k.invariant in
    record { answer = rw (le-leb (length (leb128 c.args.value)) (length c.args.room.now) last.0) (ap Some last.1); bytes = last.2 }

pub loop-k-preserved : goal.loop-k-preserved
loop-k-preserved c = grouping-more c.args.value c.args.room.now c.loop-k.rest c.loop-k.k c.loop-k.room c.if-is_last.false (omega (arith, c.loop-k.invariant.3)) c.loop-k.invariant

pub returns : goal.returns
returns c =
    let full = grouping-none c.args.value c.args.room.now c.loop-k.rest c.loop-k.k c.loop-k.room (omega (arith, c.loop-k.invariant.3)) c.loop-k.invariant in
    record { answer = rw (lt-leb (length (leb128 c.args.value)) (length c.args.room.now) full) refl; bytes = tt }
