use Rattle.std.proofs.Common.{◌≡◌, Ok, Err, is_ok, refl, ap, ◌∙◌, arith, rules}
use Rattle.std.proofs.lemmas.Bool.{cond-true}
use Rattle.nodes.proofs.Stacked.{room-to-open}
use Rattle.de.proofs.Aiming.{kept-aims}
use Rattle.de.proofs.Stepping.{stepped}
use Rattle.de.proofs.Telling.{told-refused, opened-places, told-answered, kept-room}
use Rattle.de.proofs.desk.Desk.ask.Goals as goal

-- the record that is asked is a node's
pub take-requires-clause-aims : goal.take-requires-clause-aims
take-requires-clause-aims g c = kept-aims c.args.self.now c.args.source.now.input.now (omega arith) c.requires

-- the step refuses
pub returns-in_err-heard : goal.returns-in_err-heard
returns-in_err-heard g c R S =
    let old = c.args.self.now in
    let e = c.in_err-heard.field-0.0 in
    let told : c.from_residual.result ≡ Err e = search rules in
    told-refused c.args.source.now.input.now R old c.take.new.self _ e _ S (stepped (g.C.Column.meaning c.args.source.now.kind.now) c.args.source.now.input.now old c.take.new.self R S (omega arith) c.args.question (Err e) c.in_err-heard.ensures) told

-- there is room for the place that is opened
pub unwrap-requires : goal.unwrap-requires
unwrap-requires g c =
    let p = c.take.new.self.places in
    let room = kept-room (g.C.Column.meaning c.args.source.now.kind.now) c.args.source.now.input.now c.args.self.now c.take.new.self c.args.question c.in_ok-heard.heard (omega arith) c.requires c.in_ok-heard.ensures in
    ap is_ok (c.turn.ensures.answer ∙ cond-true _ _ _ (room-to-open c.in_ok-heard.heard.opened p.depth (omega (arith, room, opened-places c.in_ok-heard.heard.opened p))))

-- the answer, once its place is opened and the places are settled
pub returns : goal.returns
returns g c R S =
    let old = c.args.self.now in
    let p = c.take.new.self.places in
    let t = c.turn.ensures in
    let room = kept-room (g.C.Column.meaning c.args.source.now.kind.now) c.args.source.now.input.now old c.take.new.self c.args.question c.in_ok-heard.heard (omega arith) c.requires c.in_ok-heard.ensures in
    let more = opened-places c.in_ok-heard.heard.opened p in
    let step = stepped (g.C.Column.meaning c.args.source.now.kind.now) c.args.source.now.input.now old c.take.new.self R S (omega arith) c.args.question (Ok c.in_ok-heard.heard) c.in_ok-heard.ensures in
    told-answered c.args.source.now.input.now R old c.take.new.self _ _ c.in_ok-heard.heard S step
    (t.states ∙ cond-true _ _ _ (room-to-open c.in_ok-heard.heard.opened p.depth (omega (arith, room, more)))) (omega (arith, t.depth, room, more)) t.table refl
