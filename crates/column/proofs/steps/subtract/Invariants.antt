use Rattle.std.proofs.Common.{◌≡◌, ◌^◌, ◌<◌, ◌++◌, take, drop}
use Rattle.column.specs.Widths.{Below}
use Rattle.column.specs.Steps.{differences}
use Rattle.column.proofs.steps.subtract.Given as goal

abbrev pub invariant-loop-value : goal.invariant-loop-value
invariant-loop-value l =
    (take l.value-index l.values ++ differences l.width l.last (drop l.value-index l.values) ≡ differences l.width 0 l.initial.values) × (l.last < 2 ^ l.width) × Below l.width (drop l.value-index l.values)
