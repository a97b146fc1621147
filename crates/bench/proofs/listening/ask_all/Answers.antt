use Rattle.std.proofs.Common.{drop, get_or, ◌+◌, subst, rules}
use Rattle.document.specs.Replay.{replay, finish}
use Rattle.bench.specs.Hearing.{Counts}
use Rattle.bench.proofs.Asking.{Along, no_question, questions-here, questions-end, asked-as, along-stopped, along-more, along-end, along-refused}
use Rattle.bench.proofs.listening.ask_all.Goals as goal

-- a question is refused
pub returns-in_err-tally-clause-counts : goal.returns-in_err-tally-clause-counts
returns-in_err-tally-clause-counts g c R st =
    let col = g.C.Column.meaning c.args.reader.now.kind.now in
    let input = c.args.input.now in
    let all = c.args.questions.now in
    let i = c.loop-question.question-index in
    let reader = c.loop-question.reader in
    let along = subst (Along col input c.args.reader.now all reader c.loop-question.tally) (questions-here all i c.loop-question-test.true) c.loop-question.invariant in
    let told = asked-as (λ k. g.C.Column.meaning k.now) reader.kind c.args.reader.now.kind along.kind input c.loop-question.tally (get_or all i no_question) reader c.ask.new.reader c.ask.result c.ask.ensures.asked in
    let stopped = along-stopped col input c.args.reader.now all reader c.ask.new.reader c.loop-question.tally (get_or all i no_question) (drop (i + 1) all) along c.ask.result told c.in_err-tally.field-0.0 c.in_err-tally.was R st in
    subst (Counts 0 (finish (replay col input R all))) (search rules) stopped

-- it is answered
pub loop-question-preserved : goal.loop-question-preserved
loop-question-preserved g c =
    let col = g.C.Column.meaning c.args.reader.now.kind.now in
    let input = c.args.input.now in
    let all = c.args.questions.now in
    let i = c.loop-question.question-index in
    let reader = c.loop-question.reader in
    let along = subst (Along col input c.args.reader.now all reader c.loop-question.tally) (questions-here all i c.loop-question-test.true) c.loop-question.invariant in
    let told = asked-as (λ k. g.C.Column.meaning k.now) reader.kind c.args.reader.now.kind along.kind input c.loop-question.tally (get_or all i no_question) reader c.ask.new.reader c.ask.result c.ask.ensures.asked in
    along-more col input c.args.reader.now all reader c.ask.new.reader c.loop-question.tally (get_or all i no_question) (drop (i + 1) all) along c.ask.result told c.in_ok-tally.tally c.in_ok-tally.was c.ask.ensures.kind c.ask.ensures.input c.ask.ensures.lengths

-- finish refuses
pub returns-in_err-finish-clause-counts : goal.returns-in_err-finish-clause-counts
returns-in_err-finish-clause-counts g c R st =
    let col = g.C.Column.meaning c.args.reader.now.kind.now in
    let input = c.args.input.now in
    let all = c.args.questions.now in
    let reader = c.loop-question.reader in
    let along = subst (Along col input c.args.reader.now all reader c.loop-question.tally) (questions-end all c.loop-question.question-index c.loop-question-test.false) c.loop-question.invariant in
    let refused = along-refused col input c.args.reader.now all reader c.loop-question.tally along c.finish.result c.finish.ensures c.in_err-finish.field-0.0 c.in_err-finish.was R st in
    subst (Counts 0 (finish (replay col input R all))) (search rules) refused

-- .. or accepts
pub returns-clause-counts : goal.returns-clause-counts
returns-clause-counts g c R st =
    let col = g.C.Column.meaning c.args.reader.now.kind.now in
    let input = c.args.input.now in
    let all = c.args.questions.now in
    let reader = c.loop-question.reader in
    let along = subst (Along col input c.args.reader.now all reader c.loop-question.tally) (questions-end all c.loop-question.question-index c.loop-question-test.false) c.loop-question.invariant in
    along-end col input c.args.reader.now all reader c.loop-question.tally along c.finish.result c.finish.ensures c.in_ok-finish.was R st
