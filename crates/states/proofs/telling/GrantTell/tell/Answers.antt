use Rattle.std.proofs.Common.{Ok}
use Rattle.document.specs.Calls.{val, some, none}
use Rattle.states.specs.Documents.{number_calls, target_calls}
use Rattle.states.proofs.Added.{more-told, call-next, ended}
use Rattle.states.proofs.telling.GrantTell.tell.Goals as goal

pub returns-in_err-tell : goal.returns-in_err-tell
returns-in_err-tell c = ended (target_calls c.args.self.now.seat) c.in_err-tell.field-0.0 c.from_residual.result c.from_residual.ensures.1 c.in_err-tell.ensures

pub returns-in_ok-call-in-Some : goal.returns-in_ok-call-in-Some
returns-in_ok-call-in-Some c =
    let opened = call-next c.call.new.self (val some) (Ok tt) c.in_ok-tell.ensures c.in_ok-call-in-Some.ensures in
    rw c.in-Some.is (more-told c.tell-in-Some.new.writer (number_calls c.in-Some.seat) c.tell-in-Some.result opened c.tell-in-Some.ensures)

pub returns-in-None : goal.returns-in-None
returns-in-None c = rw c.in-None.is (call-next c.call-in-None.new.self (val none) c.call-in-None.result c.in_ok-tell.ensures c.call-in-None.ensures)
