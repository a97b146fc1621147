use Rattle.std.proofs.Common.{◌≡◌, ◌++◌, take, drop}
use Rattle.column.specs.Steps.{sums}
use Rattle.column.proofs.steps.add_up.Given as goal

abbrev pub invariant-loop-value : goal.invariant-loop-value
invariant-loop-value l = take l.value-index l.values ++ sums l.width l.last (drop l.value-index l.values) ≡ sums l.width 0 l.initial.values
