use Rattle.replay.proofs.Listening.{told_as, matched_same, matched_other}
use Rattle.document.specs.Said.{said}
use Rattle.replay.proofs.trip.ask.Goals as goal

-- the call's value
pub returns-then-says-clause-matched : goal.returns-then-says-clause-matched
returns-then-says-clause-matched g c R st =
    let col = g.C.Column.meaning c.args.reader.now.kind.now in
    let step = c.args.step.now in
    matched_same col c.args.input.now c.args.reader.now c.ask.new.self step.no_size (said step.call) c.ask.result R (told_as col _ _ c.question.ensures.answer c.args.reader.now c.ask.new.self c.ask.result R (c.ask.ensures.told R st))
    c.in_ok-answer.answer c.in_ok-answer.was c.requires c.ask.ensures.input (c.says.ensures.0 c.if-says.true)

-- another one
pub returns-else-says-clause-matched : goal.returns-else-says-clause-matched
returns-else-says-clause-matched g c R st =
    let col = g.C.Column.meaning c.args.reader.now.kind.now in
    let step = c.args.step.now in
    matched_other col c.args.input.now c.args.reader.now c.ask.new.self step.no_size (said step.call) c.ask.result R (told_as col _ _ c.question.ensures.answer c.args.reader.now c.ask.new.self c.ask.result R (c.ask.ensures.told R st))
    c.in_ok-answer.answer c.in_ok-answer.was c.requires c.ask.ensures.input (λ s. cc (c.if-says.false, c.says.ensures.1 s))
