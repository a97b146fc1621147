use Rattle.std.proofs.Common.{length}
use Rattle.states.proofs.reading.+are.Given as goal

-- the seats that are left
abbrev pub decreases-are : goal.decreases-are
decreases-are l = length l.reads.now
