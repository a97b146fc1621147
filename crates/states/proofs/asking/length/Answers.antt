use Rattle.std.proofs.Common.{◌∙◌, ap, subst}
use Rattle.document.specs.declared.questions.Question.{Question}
use Rattle.states.proofs.Asked.{AskedFor, no-other, length-told, length_answer}
use Rattle.states.proofs.asking.length.Goals as goal

-- a list's question is answered by a list's length
pub unreachable-requires : goal.unreachable-requires
unreachable-requires g c =
    no-other (g.C.Column.meaning c.args.reader.now.kind.now) c.args.reader.now c.ask.new.self c.question.result c.ask.result c.in_ok-answer.answer c.in_ok-answer.was c.ask.ensures.told
    (λ d place asked ans. let (n, is) = length-told c.args.items c.in_ok-answer.answer d place (subst (λ (q : Question). AskedFor q d) c.question.ensures asked) ans in c.in_default.not-Seq n (is ∙ ap (λ items. length_answer items n) c.in-Elements.is))

-- .. and a map's by a map's
pub unreachable-requires-in_default-answer : goal.unreachable-requires-in_default-answer
unreachable-requires-in_default-answer g c =
    no-other (g.C.Column.meaning c.args.reader.now.kind.now) c.args.reader.now c.ask.new.self c.question.result c.ask.result c.in_ok-answer.answer c.in_ok-answer.was c.ask.ensures.told
    (λ d place asked ans. let (n, is) = length-told c.args.items c.in_ok-answer.answer d place (subst (λ (q : Question). AskedFor q d) c.question.ensures asked) ans in c.in_default-answer.not-Map n (is ∙ ap (λ items. length_answer items n) c.in-Pairs.is))
