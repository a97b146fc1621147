use Rattle.ser.proofs.Judging.{judges}
use Rattle.ser.proofs.Taking.{enters}
use Rattle.ser.proofs.Telling.{telling, kept}
use Rattle.ser.proofs.Closing.{kept-safe}
use Rattle.ser.proofs.writer.Writer.call.Goals as goal

pub call-requires : goal.call-requires
call-requires c = record { safe = kept-safe c.args.self.now.desk c.args.self.now.stands }

pub invariant_of-self : goal.invariant_of-self
invariant_of-self c = record { stands = kept judges enters c.args.self.now.desk c.call.new.self _ _ c.call.ensures.real c.call.ensures.did c.args.self.now.stands }

pub returns : goal.returns
returns c cs S = telling judges enters c.args.self.now.desk c.call.new.self cs _ _ S c.call.ensures.real c.call.ensures.did
