use Rattle.std.proofs.Common.{take}
use Rattle.std.specs.List.{flat_map}
use Rattle.std.specs.Fmt.{HasWritten, IsPlainFormatter}
use Rattle.std.specs.Fmt.{decimal}
use Rattle.printing.specs.Printed.{after_space}
use Rattle.printing.proofs.SpacedDisplay.fmt.Given as goal

-- what follows the first, so far
abbrev pub invariant-loop-value : goal.invariant-loop-value
invariant-loop-value g l = IsPlainFormatter l.initial.f → HasWritten g.W.Write.write_str_gives l.initial.f (flat_map (after_space decimal) (take l.value-index l.rest)) l.f
