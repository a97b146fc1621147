use Rattle.replay.proofs.Giving.{Giving}
use Rattle.replay.proofs.write.give.Given as goal

-- so many steps were given
abbrev pub invariant-loop-step : goal.invariant-loop-step
invariant-loop-step l = Giving l.initial.writer l.initial.steps l.writer l.steps l.step-index
