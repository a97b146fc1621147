use Rattle.replay.proofs.Giving.{gives-more}
use Rattle.replay.proofs.write.give.Goals as goal

pub loop-step-preserved : goal.loop-step-preserved
loop-step-preserved c =
    gives-more c.args.writer.now c.loop-step.writer c.call.new.self c.args.steps.now c.loop-step.steps c.loop-step.step-index c.call.result c.is_ok-step.result c.loop-step-test.true c.loop-step.invariant c.call.ensures c.is_ok-step.ensures.value
