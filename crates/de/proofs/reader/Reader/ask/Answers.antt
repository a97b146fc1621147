use Rattle.de.proofs.Telling.{kept, lengths-kept}
use Rattle.de.proofs.reader.Reader.ask.Goals as goal

-- the reader stands for some reading after the question
pub invariant_of-self : goal.invariant_of-self
invariant_of-self g c = record { bytes = c.args.self.now.bytes; stands = kept (g.C.Column.meaning c.args.self.now.kind.now) c.args.self.now.input.now c.args.self.now.desk c.ask.new.self c.args.question _ c.args.self.now.stands c.ask.ensures }

-- its tables keep their lengths
pub returns-clause-lengths : goal.returns-clause-lengths
returns-clause-lengths g c = lengths-kept (g.C.Column.meaning c.args.self.now.kind.now) c.args.self.now.input.now c.args.self.now.desk c.ask.new.self c.args.question _ c.args.self.now.stands c.ask.ensures
