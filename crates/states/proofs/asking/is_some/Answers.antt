use Rattle.std.proofs.Common.{⊎_elim}
use Rattle.document.specs.declared.questions.Question.TheVariants as questions
use Rattle.states.proofs.Asked.{no-other, option-told}
use Rattle.states.proofs.asking.is_some.Goals as goal

pub unreachable-requires : goal.unreachable-requires
unreachable-requires g c =
    no-other (g.C.Column.meaning c.args.reader.now.kind.now) c.args.reader.now c.ask.new.self questions.Option c.ask.result c.in_ok-ask.field-0 c.in_ok-ask.was c.ask.ensures.told
    (λ d place asked ans. ⊎_elim c.in_default.not-None c.in_default.not-Some (option-told c.in_ok-ask.field-0 d place asked ans))
