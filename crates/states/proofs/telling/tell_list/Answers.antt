use Rattle.std.proofs.Common.{Err, ◌++◌, [], ◌∷◌}
use Rattle.std.specs.List.{flat_map}
use Rattle.document.specs.Calls.{end}
use Rattle.document.specs.Said.{said}
use Rattle.states.proofs.Added.{call-told, ended, element-ended, list-told}
use Rattle.states.proofs.telling.tell_list.Goals as goal

pub returns-in_err-call : goal.returns-in_err-call
returns-in_err-call g c =
    let e = c.in_err-call.field-0.0 in
    let begun = call-told c.args.writer.now c.call.new.self (said c.args.announcement) (Err e) c.in_err-call.ensures in
    ended (flat_map g.T.Tell.calls c.args.elements.now ++ end ∷ []) e c.from_residual.result c.from_residual.ensures.1 begun

pub returns-in_err-tell : goal.returns-in_err-tell
returns-in_err-tell g c =
    element-ended g.T.Tell.calls (said c.args.announcement) c.args.elements.now c.tell.new.writer c.loop-element.element-index c.element-item.result c.in_err-tell.field-0.0 c.from_residual-in_err-tell.result c.from_residual-in_err-tell.ensures.1
    c.element-item.is c.loop-element-test.true c.loop-element.invariant c.in_err-tell.ensures

pub returns : goal.returns
returns g c =
    list-told g.T.Tell.calls (said c.args.announcement) c.args.elements.now c.call-2.new.self c.loop-element.element-index c.call-2.result c.loop-element-test.false c.loop-element.invariant c.call-2.ensures
