use Rattle.std.proofs.Common.{◌≡◌, ◌+◌, ◌<◌, length}
use Rattle.de.specs.Moves.{sheets, node, grown}
use Rattle.de.proofs.store.Tables.grow.Given as goal

-- so many children are there, and the last of them lies among those in use
abbrev pub invariant-loop-i : goal.invariant-loop-i
invariant-loop-i l =
    (sheets l.self ≡ grown l.r l.i l.count (sheets l.initial.self))
    × (l.self.used ≡ l.initial.self.used + l.i)
    × ((node (sheets l.self) l.r).children.last < l.self.used)
    × (length (sheets l.self).nodes ≡ length (sheets l.initial.self).nodes)
