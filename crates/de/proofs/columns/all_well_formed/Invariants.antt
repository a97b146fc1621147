use Rattle.std.proofs.Common.{◌≡◌, ◌≤◌, length, drop}
use Rattle.document.specs.Columns.{sum}
use Rattle.document.specs.Fetch.{cut, all_pass}
use Rattle.de.proofs.columns.all_well_formed.Given as goal

-- the texts that are left are cut from the bytes that are left, and decide
abbrev pub invariant-loop-length : goal.invariant-loop-length
invariant-loop-length l =
    (sum (drop l.length-index l.lengths) ≤ length l.left) × (all_pass (cut (drop l.length-index l.lengths) l.left) ≡ all_pass (cut l.lengths l.texts))
