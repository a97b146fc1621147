use Rattle.std.proofs.Common.{◌≤◌, drop}
use Rattle.replay.specs.Listening.{askings}
use Rattle.replay.proofs.Listening.{Along}
use Rattle.replay.proofs.trip.listen.Given as goal

-- so many of the first steps' questions were answered by their calls' values
abbrev pub invariant-loop-step : goal.invariant-loop-step
invariant-loop-step g l =
    (l.count ≤ l.step-index)
    × Along (g.C.Column.meaning l.initial.reader.kind.now) l.initial.input l.initial.reader (askings l.initial.steps) l.reader l.count (askings (drop l.step-index l.initial.steps))
