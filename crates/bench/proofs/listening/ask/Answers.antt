use Rattle.bench.proofs.Asking.{asked-answered}
use Rattle.bench.proofs.listening.ask.Goals as goal

-- any other answer
pub returns-in_default-clause-asked : goal.returns-in_default-clause-asked
returns-in_default-clause-asked g c R st =
    asked-answered (g.C.Column.meaning c.args.reader.now.kind.now) c.args.input.now c.args.reader.now c.ask.new.self c.args.question c.ask.result R (c.ask.ensures.told R st) c.in_ok-answer.answer c.in_ok-answer.was c.requires c.ask.ensures.input c.args.tally c.with-next.result c.with-next.ensures.answers
