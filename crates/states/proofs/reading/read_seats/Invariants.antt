use Rattle.std.proofs.Common.{vec_items}
use Rattle.states.specs.declared.asking.Items.TheVariants.{Elements}
use Rattle.states.specs.Documents.{seat_calls}
use Rattle.states.specs.Returned.{SameSeat}
use Rattle.states.proofs.Listed.{Listed}
use Rattle.states.proofs.reading.read_seats.Given as goal

-- so many seats were read
abbrev pub invariant-loop : goal.invariant-loop
invariant-loop g l = Listed g.C.Column.meaning l.fn.input l.fn.reader l.reader Elements seat_calls SameSeat l.end l.counter (vec_items l.seats)
