use Rattle.document.specs.declared.scalars.Scalar.TheVariants as scalars
use Rattle.document.specs.declared.questions.Question.TheVariants as questions
use Rattle.states.proofs.Asked.{no-other, number-told}
use Rattle.states.proofs.asking.number.Goals as goal

pub unreachable-requires : goal.unreachable-requires
unreachable-requires g c =
    no-other (g.C.Column.meaning c.args.reader.now.kind.now) c.args.reader.now c.ask.new.self (questions.Scalar scalars.U8) c.ask.result c.in_ok-number.field-0 c.in_ok-number.was c.ask.ensures.told
    (λ d place asked ans. let (n, is) = number-told c.in_ok-number.field-0 d place asked ans in c.in_default.not-U8 n is)
