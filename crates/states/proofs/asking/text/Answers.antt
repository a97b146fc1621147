use Rattle.std.proofs.Common.{subst, length}
use Rattle.document.specs.declared.questions.Question.TheVariants as questions
use Rattle.de.specs.Answered.{Answers}
use Rattle.states.proofs.Asked.{no-other}
use Rattle.states.proofs.asking.text.Goals as goal

pub unreachable-requires : goal.unreachable-requires
unreachable-requires g c =
    no-other (g.C.Column.meaning c.args.reader.now.kind.now) c.args.reader.now c.ask.new.self questions.Text c.ask.result c.in_ok-place.field-0 c.in_ok-place.was c.ask.ensures.told
    (λ d place (bs, is) ans. c.in_default.not-Text place (length bs) (subst (λ x. Answers c.in_ok-place.field-0 x place) is ans))
