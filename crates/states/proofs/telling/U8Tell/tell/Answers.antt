use Rattle.document.specs.declared.scalars.Scalar.TheVariants.{U8}
use Rattle.document.specs.Calls.{val, scalar}
use Rattle.states.proofs.Added.{call-told}
use Rattle.states.proofs.telling.U8Tell.tell.Goals as goal

pub returns : goal.returns
returns c = call-told c.args.writer.now c.call.new.self (val (scalar U8 c.args.self.now)) c.call.result c.call.ensures
