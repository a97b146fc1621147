use Rattle.std.proofs.Common.{Ok, Err, [], ◌∷◌}
use Rattle.document.specs.Calls.{end}
use Rattle.states.specs.Documents.{hand_calls, grants_calls}
use Rattle.states.proofs.Added.{more-told, rest-untold, ended, call-next}
use Rattle.states.proofs.telling.SeatTell.tell.Goals as goal

pub returns-in_err-tell_hand : goal.returns-in_err-tell_hand
returns-in_err-tell_hand c =
    let seat = c.args.self.now in
    let e = c.in_err-tell_hand.field-0.0 in
    let hand = rest-untold c.args.writer.now c.tell_hand.new.writer (hand_calls seat) (grants_calls seat.grants.now) e c.in_err-tell_hand.ensures in
    ended (end ∷ []) e c.from_residual.result c.from_residual.ensures.1 hand

pub returns-in_err-tell_list : goal.returns-in_err-tell_list
returns-in_err-tell_list c =
    let e = c.in_err-tell_list.field-0.0 in
    let granted = more-told c.tell_list.new.writer (grants_calls c.args.self.now.grants.now) (Err e) c.in_ok-tell_hand.ensures c.in_err-tell_list.ensures in
    ended (end ∷ []) e c.from_residual-in_err-tell_list.result c.from_residual-in_err-tell_list.ensures.1 granted

pub returns : goal.returns
returns c =
    let granted = more-told c.tell_list.new.writer (grants_calls c.args.self.now.grants.now) (Ok tt) c.in_ok-tell_hand.ensures c.in_ok-tell_list.ensures in
    call-next c.call.new.self end c.call.result granted c.call.ensures
