use Rattle.std.proofs.Common.{arith}
use Rattle.de.proofs.Finishing.{finish-left}
use Rattle.de.proofs.reader.Reader.finish.Goals as goal

-- bytes are left
pub returns-then-self : goal.returns-then-self
returns-then-self g c R S = finish-left c.args.self.now.desk c.args.self.now.input.now R S (omega arith) c.if-self.true
