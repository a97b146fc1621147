use Rattle.std.proofs.Common.{drop}
use Rattle.bench.proofs.Asking.{Along}
use Rattle.bench.proofs.listening.ask_all.Given as goal

-- so many of the first questions were answered
abbrev pub invariant-loop-question : goal.invariant-loop-question
invariant-loop-question g l = Along (g.C.Column.meaning l.initial.reader.kind.now) l.initial.input l.initial.reader l.initial.questions l.reader l.tally (drop l.question-index l.initial.questions)
