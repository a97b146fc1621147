use Rattle.std.proofs.Common.{◌≡◌, ◌≤◌, ◌++◌, length, take, drop}
use Rattle.document.specs.Fetch.{beyond, merged}
use Rattle.de.proofs.columns.merge.Given as goal

-- the second column has the long lengths that are left, and with them the lengths are the merged ones
abbrev pub invariant-loop-length : goal.invariant-loop-length
invariant-loop-length l =
    (beyond (drop l.length-index l.lengths) ≤ length l.left)
    × (take l.length-index l.lengths ++ merged (drop l.length-index l.lengths) l.left ≡ merged l.initial.lengths l.longs)
