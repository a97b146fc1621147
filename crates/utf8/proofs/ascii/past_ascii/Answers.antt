use Rattle.std.proofs.Common.{arith}
use Rattle.utf8.proofs.Beginnings.{past-eight, past-one}
use Rattle.utf8.proofs.ascii.past_ascii.Goals as goal

-- eight more
pub loop-left-preserved : goal.loop-left-preserved
loop-left-preserved c = past-eight c.args.text.now c.loop-left.left.now c.loop-left.invariant c.in-len8-up.len_at_least (λ i. omega (arith, c.type_inv.text i)) c.from_le_bytes.result c.from_le_bytes.ensures c.if-from_le_bytes-eq0.true

-- one more
pub loop-left-2-preserved : goal.loop-left-2-preserved
loop-left-2-preserved c = past-one c.args.text.now c.loop-left-2.left.now c.loop-left-2.invariant c.in-len1-up.len_at_least (omega (arith, c.if-a-lt128.true))
