use Rattle.std.proofs.Common.{length}
use Rattle.utf8.specs.Ascii.{Past}
use Rattle.utf8.proofs.ascii.past_ascii.Given as goal

-- only ASCII was passed
abbrev pub invariant-loop-left : goal.invariant-loop-left
invariant-loop-left l = Past l.text l.left

abbrev pub decreases-loop-left : goal.decreases-loop-left
decreases-loop-left l = length l.left

abbrev pub invariant-loop-left-2 : goal.invariant-loop-left-2
invariant-loop-left-2 l = Past l.text l.left

abbrev pub decreases-loop-left-2 : goal.decreases-loop-left-2
decreases-loop-left-2 l = length l.left
