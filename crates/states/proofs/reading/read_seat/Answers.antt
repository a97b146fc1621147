use Rattle.std.proofs.Common.{[], ◌∷◌, refl}
use Rattle.document.specs.Calls.{end}
use Rattle.states.specs.Documents.{seat_calls}
use Rattle.states.specs.Returned.{SameSeat}
use Rattle.states.proofs.Awaited.{begun, read-next, read-failed, read-all}
use Rattle.states.proofs.Seats.{from_name, from_cards, from_grants, seat-parts, opened-seat, named-seat, dealt-seat, granted-seat}
use Rattle.states.proofs.reading.read_seat.Goals as goal

pub returns-in_err-tuple : goal.returns-in_err-tuple
returns-in_err-tuple g c =
    read-failed from_name SameSeat c.from_residual.result (λ s k. (tt {0}, seat-parts s)) c.from_residual.ensures.1
    (begun g.C.Column.meaning c.args.input.now c.args.reader.now seat_calls) (c.in_err-tuple.ensures c.args.input.now)

pub returns-in_err-name : goal.returns-in_err-name
returns-in_err-name g c =
    read-failed from_cards SameSeat c.from_residual-in_err-name.result (λ s k. (s.name.now, refl)) c.from_residual-in_err-name.ensures.1
    (opened-seat g.C.Column.meaning c.args.input.now c.args.reader.now (c.in_ok-tuple.ensures c.args.input.now)) c.in_err-name.ensures

pub returns-in_err-cards : goal.returns-in_err-cards
returns-in_err-cards g c =
    read-failed from_grants SameSeat c.from_residual-in_err-cards.result (λ s k. (s.cards.now, refl)) c.from_residual-in_err-cards.ensures.1
    (named-seat g.C.Column.meaning c.args.input.now c.args.reader.now (c.in_ok-tuple.ensures c.args.input.now) c.in_ok-name.name c.in_ok-name.ensures) (c.in_err-cards.ensures c.args.input.now)

pub returns-in_err-grants : goal.returns-in_err-grants
returns-in_err-grants g c =
    read-failed (λ s. end ∷ []) SameSeat c.from_residual-in_err-grants.result (λ s k. (s.grants.now, refl)) c.from_residual-in_err-grants.ensures.1
    (dealt-seat g.C.Column.meaning c.args.input.now c.args.reader.now (c.in_ok-tuple.ensures c.args.input.now) c.in_ok-name.name c.in_ok-name.ensures c.in_ok-cards.cards (c.in_ok-cards.ensures c.args.input.now)) (c.in_err-grants.ensures c.args.input.now)

pub returns-in_err-end : goal.returns-in_err-end
returns-in_err-end g c =
    read-failed (λ s. []) SameSeat c.from_residual-in_err-end.result (λ s k. (tt {0}, refl)) c.from_residual-in_err-end.ensures.1
    (granted-seat g.C.Column.meaning c.args.input.now c.args.reader.now (c.in_ok-tuple.ensures c.args.input.now) c.in_ok-name.name c.in_ok-name.ensures c.in_ok-cards.cards (c.in_ok-cards.ensures c.args.input.now) c.in_ok-grants.grants (c.in_ok-grants.ensures c.args.input.now)) (c.in_err-end.ensures c.args.input.now)

pub returns : goal.returns
returns g c =
    read-all _ SameSeat (λ s k. (refl, k))
    (read-next _ (λ s. []) (λ s k. (tt {0}, refl, λ same. k))
    (granted-seat g.C.Column.meaning c.args.input.now c.args.reader.now (c.in_ok-tuple.ensures c.args.input.now) c.in_ok-name.name c.in_ok-name.ensures c.in_ok-cards.cards (c.in_ok-cards.ensures c.args.input.now) c.in_ok-grants.grants (c.in_ok-grants.ensures c.args.input.now)) (c.in_ok-end.ensures c.args.input.now))
