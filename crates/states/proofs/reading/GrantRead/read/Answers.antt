use Rattle.std.proofs.Common.{◌≡◌, [], Some, None, is_some, refl, sym, ap, ◌∙◌}
use Rattle.states.specs.declared.state.Grant.{Grant}
use Rattle.states.specs.Documents.{grant_calls, target_calls}
use Rattle.states.proofs.Awaited.{begun, read-next, read-failed, read-all}
use Rattle.states.proofs.Grants.{seat_calls, target-parts, seat-follows, none-follows, same-grant, card-read, opening-read}
use Rattle.states.proofs.reading.GrantRead.read.Goals as goal

pub returns-in_err-card : goal.returns-in_err-card
returns-in_err-card g c input =
    read-failed (λ (x : Grant). target_calls x.seat) (λ y x. y ≡ x) c.from_residual.result (λ x k. (x.card, refl)) c.from_residual.ensures.1
    (begun g.C.Column.meaning input c.args.reader.now grant_calls) (c.in_err-card.ensures input)

pub returns-in_err-is_some : goal.returns-in_err-is_some
returns-in_err-is_some g c input =
    let card = card-read g.C.Column.meaning input c.args.reader.now c.in_ok-card.card (c.in_ok-card.ensures input) in
    read-failed (λ (x : Grant). seat_calls x.seat) (λ y x. y ≡ x) c.from_residual-in_err-is_some.result (λ x k. (is_some x.seat, target-parts x.seat)) c.from_residual-in_err-is_some.ensures.1
    card (c.in_err-is_some.ensures input)

pub returns-in_err-number : goal.returns-in_err-number
returns-in_err-number g c input =
    let opens = opening-read g.C.Column.meaning input c.args.reader.now c.in_ok-card.card c.in_ok-is_some.field-0 (c.in_ok-card.ensures input) (c.in_ok-is_some.ensures input) in
    read-failed (λ (x : Grant). []) (λ y x. y ≡ x) c.from_residual-in_err-number.result (λ x k. let (n, is, seat) = seat-follows c.in_ok-is_some.field-0 x.seat k.1 c.if-branch.true in (n, is))
    c.from_residual-in_err-number.ensures.1 opens (c.in_err-number.ensures input)

pub returns-in_ok-number : goal.returns-in_ok-number
returns-in_ok-number g c input =
    let opens = opening-read g.C.Column.meaning input c.args.reader.now c.in_ok-card.card c.in_ok-is_some.field-0 (c.in_ok-card.ensures input) (c.in_ok-is_some.ensures input) in
    let whole = read-next (λ (x : Grant). (c.in_ok-card.card ≡ x.card) × (x.seat ≡ Some c.in_ok-number.field-0)) (λ x. [])
    (λ x k. let (n, is, seat) = seat-follows c.in_ok-is_some.field-0 x.seat k.1 c.if-branch.true in (n, is, λ same. (k.0, seat ∙ ap Some (sym same)))) opens (c.in_ok-number.ensures input) in
    read-all _ (λ y x. y ≡ x) (λ x k. (refl, same-grant c.in_ok-card.card (Some c.in_ok-number.field-0) x k.0 k.1)) whole

pub returns-else-branch : goal.returns-else-branch
returns-else-branch g c input =
    let opens = opening-read g.C.Column.meaning input c.args.reader.now c.in_ok-card.card c.in_ok-is_some.field-0 (c.in_ok-card.ensures input) (c.in_ok-is_some.ensures input) in
    read-all _ (λ y x. y ≡ x) (λ x k. let n = none-follows c.in_ok-is_some.field-0 x.seat k.1 c.if-branch.false in (n.0, same-grant c.in_ok-card.card None x k.0 n.1)) opens
