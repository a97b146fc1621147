use Rattle.std.proofs.Common.{◌≡◌, ◌+◌, get_or, drop, Ok, Err, Result, MatchResult, rules, sym, subst, arith}
use Rattle.document.specs.declared.refusals.Refusal.{Refusal}
use Rattle.replay.specs.declared.trip.Mismatch.{Mismatch}
use Rattle.replay.specs.declared.trip.Mismatch.TheVariants.{Refused}
use Rattle.replay.specs.Listening.{askings, ending_of, Listens}
use Rattle.replay.proofs.Giving.{no_step}
use Rattle.replay.proofs.Listening.{Along, matched_as, askings-accepted, askings-refused, askings-end, along-stopped, along-more, along-end}
use Rattle.replay.proofs.trip.listen.Goals as goal
use Rattle.replay.proofs.trip.listen.Goals.{then-step+in_default, else-step}

-- a refusal, or another value
pub returns-in-Err-clause-heard : goal.returns-in-Err-clause-heard
returns-in-Err-clause-heard g c =
    let col = g.C.Column.meaning c.args.reader.now.kind.now in
    let input = c.args.input.now in
    let steps = c.args.steps.now in
    let i = c.loop-step.step-index in
    let reader = c.loop-step.reader in
    let (few, along) = c.loop-step.invariant in
    let next = askings-accepted steps i c.loop-step-test.true c.if-step.true in
    along-stopped col input c.args.reader.now (askings steps) reader c.ask.new.reader c.loop-step.count (get_or steps i no_step) (askings (drop (i + 1) steps)) (subst (Along col input c.args.reader.now (askings steps) reader c.loop-step.count) next along) c.ask.result
    (matched_as (λ k. g.C.Column.meaning k.now) reader.kind c.args.reader.now.kind along.kind input (get_or steps i no_step) reader c.ask.new.reader c.ask.result c.ask.ensures.matched) c.in-Err.mismatch c.in-Err.is

pub loop-step-preserved : goal.loop-step-preserved
loop-step-preserved g c = elim c.if-step.branch [
  | then-step+in_default w ↦
      let col = g.C.Column.meaning c.args.reader.now.kind.now in
      let input = c.args.input.now in
      let steps = c.args.steps.now in
      let i = c.loop-step.step-index in
      let reader = c.loop-step.reader in
      let (few, along) = c.loop-step.invariant in
      let next = subst (Along col input c.args.reader.now (askings steps) reader c.loop-step.count) (askings-accepted steps i c.loop-step-test.true w.if-step.true) along in
      let more =
      along-more col input c.args.reader.now (askings steps) reader w.ask.new.reader c.loop-step.count (get_or steps i no_step) (askings (drop (i + 1) steps)) next w.ask.result
      (matched_as (λ k. g.C.Column.meaning k.now) reader.kind c.args.reader.now.kind along.kind input (get_or steps i no_step) reader w.ask.new.reader w.ask.result w.ask.ensures.matched) w.in_default.is w.ask.ensures.kind w.ask.ensures.input w.ask.ensures.lengths in
      (omega (arith, w.count-is, few), subst (λ r. Along col input c.args.reader.now (askings steps) r c.if-step.count (askings (drop (i + 1) steps))) (sym w.reader-is) (subst (λ n. Along col input c.args.reader.now (askings steps) w.ask.new.reader n (askings (drop (i + 1) steps))) (sym w.count-is) more))
  | else-step w ↦
      let col = g.C.Column.meaning c.args.reader.now.kind.now in
      let steps = c.args.steps.now in
      let i = c.loop-step.step-index in
      let (few, along) = c.loop-step.invariant in
      let next = subst (Along col c.args.input.now c.args.reader.now (askings steps) c.loop-step.reader c.loop-step.count) (askings-refused steps i c.loop-step-test.true w.if-step.false) along in
      (omega (arith, w.count-is), subst (λ r. Along col c.args.input.now c.args.reader.now (askings steps) r c.if-step.count (askings (drop (i + 1) steps))) (sym w.reader-is) (subst (λ n. Along col c.args.input.now c.args.reader.now (askings steps) c.loop-step.reader n (askings (drop (i + 1) steps))) (sym w.count-is) next))
]

-- finish accepts or refuses, and what is told of it is that
ended : (r : Result (Unit {0}) Refusal) (m e : Result (Unit {0}) Mismatch) → MatchResult r (λ u. m ≡ Ok u) (λ refusal. m ≡ Err (Refused refusal))
    → ((u : Unit {0}) → m ≡ Ok u → e ≡ Ok u) → ((refusal : Refusal) → m ≡ Err (Refused refusal) → e ≡ Err (Refused refusal)) → ending_of r ≡ e
ended (Ok u) m e h accepts refuses = sym (accepts u h)
ended (Err refusal) m e h accepts refuses = sym (refuses refusal h)

pub returns-clause-heard : goal.returns-clause-heard
returns-clause-heard g c R st =
    let col = g.C.Column.meaning c.args.reader.now.kind.now in
    let steps = c.args.steps.now in
    let (few, along) = c.loop-step.invariant in
    let last = subst (Along col c.args.input.now c.args.reader.now (askings steps) c.loop-step.reader c.loop-step.count) (askings-end steps c.loop-step.step-index c.loop-step-test.false) along in
    let all = along-end col c.args.input.now c.args.reader.now (askings steps) c.loop-step.reader c.loop-step.count c.finish.result last c.finish.ensures R st in
    subst (Listens col c.args.input.now R (askings steps) c.loop-step.count) (ended c.finish.result c.map_err-ending.result _ (search rules) (λ u h. search (rules, h)) (λ x h. search (rules, h))) all
