use Rattle.std.specs.Cmp.Lexicographic.{pointwise_decides}
use Rattle.states.proofs.Returned.{grants-decide}
use Rattle.states.proofs.reading.same_grants.Goals as goal

pub returns : goal.returns
returns c = rw c.eq.ensures (pointwise_decides grants-decide c.args.one.now c.args.other.now)
