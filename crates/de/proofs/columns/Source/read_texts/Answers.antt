use Rattle.std.proofs.Common.{sym, arith}
use Rattle.de.proofs.Cutting.{texts_read}
use Rattle.de.proofs.columns.Source.read_texts.Goals as goal

-- the texts are the definition's
pub returns-clause-answer : goal.returns-clause-answer
returns-clause-answer g c =
    texts_read (g.C.Column.meaning c.args.self.now.kind.now) c.args.column _ _ _ _ _ _ c.in_ok-lengths.ensures.answer (omega arith) (sym c.if-not-all_well_formed.ensures)
