use Rattle.std.proofs.Common.{◌+◌, vec_items, sym, subst}
use Rattle.states.specs.declared.asking.Items.TheVariants.{Elements}
use Rattle.states.specs.Documents.{seat_calls}
use Rattle.states.specs.Returned.{SameSeat}
use Rattle.states.proofs.Awaited.{no-memory}
use Rattle.states.proofs.Listed.{Listed, none-read, length-failed, item-read, item-failed, end-failed, list-read}
use Rattle.states.proofs.reading.read_seats.Goals as goal

pub returns-in_err-end : goal.returns-in_err-end
returns-in_err-end g c = length-failed Elements seat_calls SameSeat _ c.from_residual.result c.in_err-end.field-0.0 c.from_residual.ensures.1 (c.in_err-end.ensures c.args.input.now)

pub loop-init : goal.loop-init
loop-init g c =
    subst (Listed g.C.Column.meaning c.args.input.now c.args.reader.now c.length.new.reader Elements seat_calls SameSeat c.in_ok-end.end 0) (sym c.new-seats.ensures.items)
    (none-read Elements seat_calls SameSeat c.in_ok-end.end (c.in_ok-end.ensures c.args.input.now))

pub returns-in_err-read_seat : goal.returns-in_err-read_seat
returns-in_err-read_seat g c =
    item-failed Elements seat_calls SameSeat c.in_ok-end.end c.loop.counter (vec_items c.loop.seats) c.loop.invariant _ c.from_residual-in_err-read_seat.result c.in_err-read_seat.field-0.0 c.loop-test.true c.from_residual-in_err-read_seat.ensures.1 c.in_err-read_seat.ensures

pub returns-in_err-push : goal.returns-in_err-push
returns-in_err-push g c =
    no-memory _ c.from_residual-in_err-push.result c.from_residual-in_err-push.ensures.1
    (item-read Elements seat_calls SameSeat c.in_ok-end.end c.loop.counter (vec_items c.loop.seats) c.loop.invariant c.in_ok-read_seat.field-0 c.loop-test.true c.in_ok-read_seat.ensures)

pub loop-preserved : goal.loop-preserved
loop-preserved g c =
    subst (Listed g.C.Column.meaning c.args.input.now c.args.reader.now c.read_seat.new.reader Elements seat_calls SameSeat c.in_ok-end.end (c.loop.counter + 1)) (sym c.in_ok-push.ensures.items)
    (item-read Elements seat_calls SameSeat c.in_ok-end.end c.loop.counter (vec_items c.loop.seats) c.loop.invariant c.in_ok-read_seat.field-0 c.loop-test.true c.in_ok-read_seat.ensures)

pub returns-in_err-end-2 : goal.returns-in_err-end-2
returns-in_err-end-2 g c =
    end-failed Elements seat_calls SameSeat c.in_ok-end.end c.loop.counter (vec_items c.loop.seats) c.loop.invariant _ c.from_residual-in_err-end-2.result c.in_err-end-2.field-0.0 c.loop-test.false c.from_residual-in_err-end-2.ensures.1 (c.in_err-end-2.ensures c.args.input.now)

pub returns : goal.returns
returns g c = list-read Elements seat_calls SameSeat c.in_ok-end.end c.loop.counter (vec_items c.loop.seats) c.loop.invariant _ c.loop.seats (λ xs same. same) c.loop-test.false (c.in_ok-end-2.ensures c.args.input.now)
