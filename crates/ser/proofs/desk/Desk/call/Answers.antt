use Rattle.std.proofs.Common.{◌≡◌, Ok, Err, is_ok, sym, refl, ap, ◌∙◌, subst, subst₂, arith, rules}
use Rattle.std.proofs.lemmas.Bool.{cond-true}
use Rattle.document.specs.Said.{said}
use Rattle.nodes.specs.Stack.{top}
use Rattle.ser.specs.Moves.{sheets}
use Rattle.ser.specs.Steps.{is_deep, Did}
use Rattle.ser.proofs.Called.{outcome-roomy, took-opens, did-refused, called, did-call}
use Rattle.ser.proofs.desk.Desk.call.Goals as goal

pub returns-in_err-opened-clause-did : goal.returns-in_err-opened-clause-did
returns-in_err-opened-clause-did c =
    let old = c.args.self.now in
    let deep = c.is_deep-deep.ensures in
    let e = c.in_err-opened.field-0.0 in
    let told : c.from_residual.result ≡ Err e = search rules in
    let did = did-refused old c.take.new.self e _ c.in_err-opened.ensures in
    subst₂ (Did old _) (sym told) (called old c.is_deep-deep.result (said c.args.call) (omega arith) deep) did

pub unwrap-requires : goal.unwrap-requires
unwrap-requires c =
    let old = c.args.self.now in
    let deep = c.is_deep-deep.ensures in
    let roomy = outcome-roomy old.places.depth c.is_deep-deep.result (sheets old.tables) (top old.places) (said c.args.call) c.requires.safe.depth deep in
    let room = took-opens old c.take.new.self c.in_ok-opened.opened _ roomy c.in_ok-opened.ensures in
    ap is_ok (c.turn.ensures.answer ∙ cond-true _ _ _ room)

pub returns-clause-did : goal.returns-clause-did
returns-clause-did c =
    let old = c.args.self.now in
    let deep = c.is_deep-deep.ensures in
    let roomy = outcome-roomy old.places.depth c.is_deep-deep.result (sheets old.tables) (top old.places) (said c.args.call) c.requires.safe.depth deep in
    let t = c.turn.ensures in
    let new = record c.take.new.self { places = c.turn.new.self } in
    let did = did-call old c.take.new.self new c.in_ok-opened.opened _ (omega arith) c.requires.safe.depth (omega arith) roomy c.in_ok-opened.ensures t.states t.most t.table refl in
    subst (Did old _ (Ok tt)) (called old c.is_deep-deep.result (said c.args.call) (omega arith) deep) did
