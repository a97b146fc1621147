use Rattle.std.proofs.Common.{length}
use Rattle.utf8.proofs.Rows.{Alike}
use Rattle.utf8.proofs.well_formed.Given as goal

-- what is left is well-formed exactly when the text is
abbrev pub invariant-loop-s : goal.invariant-loop-s
invariant-loop-s l = Alike l.s l.text

abbrev pub decreases-loop-s : goal.decreases-loop-s
decreases-loop-s l = length l.s
