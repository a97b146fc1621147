use Rattle.de.proofs.Children.{Counted}
use Rattle.de.proofs.histogram.histogram.Given as goal

-- what is counted, and what the indices that are left demand, is what all demand
abbrev pub invariant-loop-index : goal.invariant-loop-index
invariant-loop-index l = Counted l.counts l.indices l.index-index
