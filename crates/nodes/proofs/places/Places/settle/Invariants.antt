use Rattle.std.proofs.Common.{◌≡◌, ◌≤◌}
use Rattle.nodes.specs.Stack.{stack, settled}
use Rattle.nodes.proofs.places.Places.settle.Given as goal

abbrev pub invariant-loop-self : goal.invariant-loop-self
invariant-loop-self l =
    (settled (stack l.self) ≡ settled (stack l.initial.self)) × (l.self.depth ≤ l.initial.self.depth) × (l.self.table ≡ l.initial.self.table)

abbrev pub decreases-loop-self : goal.decreases-loop-self
decreases-loop-self l = l.self.depth
