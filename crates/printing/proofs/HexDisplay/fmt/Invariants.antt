use Rattle.std.proofs.Common.{take}
use Rattle.std.specs.List.{flat_map}
use Rattle.std.specs.Fmt.{HasWritten, IsPlainFormatter}
use Rattle.printing.specs.Printed.{after_space, hex_pair}
use Rattle.printing.proofs.HexDisplay.fmt.Given as goal

-- what follows the first, so far
abbrev pub invariant-loop-byte : goal.invariant-loop-byte
invariant-loop-byte g l = IsPlainFormatter l.initial.f → HasWritten g.W.Write.write_str_gives l.initial.f (flat_map (after_space hex_pair) (take l.byte-index l.rest)) l.f
