use Rattle.std.proofs.Common.{length, Ok}
use Rattle.ser.specs.Moves.{sheets}
use Rattle.ser.specs.Out.{image_up_to, Put}
use Rattle.ser.proofs.store.Tables.write_nodes.Given as goal

-- the bytes of the nodes so far are put
abbrev pub invariant-loop-record : goal.invariant-loop-record
invariant-loop-record g l =
    (goal.iterator-loop-record g).can_next l.record-iterator × (goal.iterator-loop-record g).is_finite l.record-iterator
    × Put 0 (image_up_to (g.C.Column.meaning l.kind) (sheets l.self) (length l.yielded)) l.initial.output l.output (Ok l.place)
