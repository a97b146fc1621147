use Rattle.std.proofs.Common.{Ok}
use Rattle.document.specs.Calls.{val, text, tuple}
use Rattle.states.specs.Documents.{cards_calls}
use Rattle.states.proofs.Added.{call-told, call-next, more-told}
use Rattle.states.proofs.state.Seat.tell_hand.Goals as goal

pub returns : goal.returns
returns c =
    let begun = call-told c.args.writer.now c.call.new.self (val (tuple 3)) (Ok tt) c.in_ok-call.ensures in
    let named = call-next c.call-2.new.self (val (text c.as_bytes.result.now)) (Ok tt) begun c.in_ok-call-2.ensures in
    let whole = more-told c.tell_list.new.writer (cards_calls c.args.self.now.cards.now) c.tell_list.result named c.tell_list.ensures in
    rw c.as_bytes.ensures.value at whole
