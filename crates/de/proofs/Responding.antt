-- A question at the record of a node: what the code answers is what the definitions answer.
use Rattle.std.proofs.Common.{◌≡◌, ℕ, zero, suc, Bool, true, false, ◌&&◌, ltb, List, [], length, Ok, Err, Result, sym, refl, ap, ◌∙◌, subst}
use Rattle.std.proofs.Math.Bool.{and-true}
use Rattle.std.proofs.lemmas.List.{append-nil}
use Rattle.std.proofs.lemmas.Bool.{cond-true, cond-false, and_parts, ltb-false, false≢true}
use Rattle.std.specs.declared.option.Option.TheVariants as options
use Rattle.column.specs.Meaning.{Meaning}
use Rattle.document.specs.declared.refusals.Refusal.{Refusal}
use Rattle.document.specs.declared.refusals.Refusal.TheVariants as refusals
use Rattle.document.specs.declared.questions.Answer.TheVariants as answers
use Rattle.document.specs.declared.questions.Question.{Question}
use Rattle.document.specs.declared.questions.Question.TheVariants as questions
use Rattle.document.specs.Calls.{tuple}
use Rattle.document.specs.Nodes.{Path}
use Rattle.document.specs.Places.{Place, opens, too_many}
use Rattle.document.specs.Reader.{Ask, scalar?, text?, option?, variant?, seq?, map?, tuple?, Store, Reply, refuse, consult, opening, rooted}
use Rattle.nodes.specs.declared.places.State.TheVariants as states
use Rattle.nodes.proofs.Homes.{home-more}
use Rattle.de.specs.declared.heard.Heard.{Heard}
use Rattle.de.specs.Moves.{Sheets}
use Rattle.de.specs.Asked.{opens_any}
use Rattle.de.specs.Answered.{question_of}
use Rattle.de.specs.Reads.{Reads}
use Rattle.de.specs.Served.{served, Replied, Consulted, Responded}
use Rattle.de.proofs.Keeping.{spared-same}
use Rattle.de.proofs.Sizes.{lengths_same}

module _ (col : Meaning) (input : List ℕ) (r : ℕ) (q : Question) (deep : Bool) (T : Sheets) where
  -- a place too many, whatever the answer
  pub responds_full : (deep && opens_any q) ≡ true → Responded col input r q deep T T (Err refusals.Depth)
  unfolding Responded
  responds_full full ps S p gs h home few at = subst (λ m. Replied ps input gs T T m (Err refusals.Depth)) (sym (go q (and_parts deep (opens_any q) full).1)) (refl, spared-same T T refl)
    where
      many : too_many (suc (length gs)) ≡ true
      many = sym at ∙ (and_parts deep (opens_any q) full).0

      opened : (x : Reply) → opening gs x ≡ refuse refusals.Depth
      opened x = cond-true (too_many (suc (length gs))) (refuse refusals.Depth) x many

      go : (q : Question) → opens_any q ≡ true → served col S p gs q ≡ refuse refusals.Depth
      go (questions.Scalar k) e = absurd (false≢true e)
      go questions.Text e = absurd (false≢true e)
      go questions.Unit e = absurd (false≢true e)
      go questions.Option e = absurd (false≢true e)
      go questions.Variant e = opened _
      go (questions.Seq flag) e = opened _
      go (questions.Map flag) e = opened _
      go (questions.Tuple n) e = opened _
      go questions.End e = absurd (false≢true e)

  module _ (roomy : (deep && opens_any q) ≡ false) where
    -- a question that opens a place has room for it
    opened_as : (gs : List Place) → deep ≡ too_many (suc (length gs)) → opens_any q ≡ true → (x : Reply) → opening gs x ≡ x
    opened_as gs at e x = cond-false (too_many (suc (length gs))) (refuse refusals.Depth) x (sym at ∙ sym (and-true deep) ∙ sym (ap (λ b. deep && b) e) ∙ roomy)

    -- without a record for the root
    pub responds_rootless : ltb 1 (length T.nodes) ≡ false → Responded col input r q deep T T (Err refusals.Nodes)
    unfolding Responded
    responds_rootless none ps S p gs h home few at = subst (λ m. Replied ps input gs T T m (Err refusals.Nodes)) (sym (go q refl)) (refl, spared-same T T refl)
      where
        bare : (x : Reply) → rooted S x ≡ refuse refusals.Nodes
        bare x = cond-false S.rooted x (refuse refusals.Nodes) (h.rooted ∙ none)

        go : (k : Question) → k ≡ q → served col S p gs k ≡ refuse refusals.Nodes
        go (questions.Scalar k) e = bare _
        go questions.Text e = bare _
        go questions.Unit e = bare _
        go questions.Option e = bare _
        go questions.Variant e = opened_as gs at (sym (ap opens_any e)) _ ∙ bare _
        go (questions.Seq flag) e = opened_as gs at (sym (ap opens_any e)) _ ∙ bare _
        go (questions.Map flag) e = opened_as gs at (sym (ap opens_any e)) _ ∙ bare _
        go (questions.Tuple n) e = opened_as gs at (sym (ap opens_any e)) _ ∙ bare _
        go questions.End e = bare _

    module _ (some : ltb 1 (length T.nodes) ≡ true) where
      -- the root has a record
      root_there : (ps : List Path) (S : Store) → Reads T ps input S → (x : Reply) → rooted S x ≡ x
      root_there ps S h x = cond-true S.rooted x (refuse refusals.Nodes) (h.rooted ∙ some)

      -- a unit asks nothing of its node
      pub responds_unit : q ≡ questions.Unit → Responded col input r q deep T T (Ok (record { answer = answers.Unit; opened = options.None }))
      unfolding Responded
      responds_unit is ps S p gs h home few at =
          subst (λ k. Replied ps input gs T T (served col S p gs k) (Ok (record { answer = answers.Unit; opened = options.None }))) (sym is)
          (subst (λ m. Replied ps input gs T T m (Ok (record { answer = answers.Unit; opened = options.None }))) (sym (root_there ps S h _)) (
            record { answer = answers.Unit; opened = options.None },
            [],
            refl,
            refl,
            tt,
            refl,
            record { more = []; reads = subst (λ qs. Reads T qs input S) (sym (append-nil ps)) h; opens = tt; few = few; lengths = lengths_same T T refl },
          ))

      -- nor does a `tuple 1`, whose value stands at the same node
      pub responds_lone : q ≡ questions.Tuple 1 → Responded col input r q deep T T (Ok (record { answer = answers.Tuple; opened = options.Some (states.Lone r 1) }))
      unfolding Responded
      responds_lone is ps S p gs h home few at =
          let x : Heard = record { answer = answers.Tuple; opened = options.Some (states.Lone r 1) } in
          let opens_one = sym (ap opens_any is) in
          subst (λ k. Replied ps input gs T T (served col S p gs k) (Ok x)) (sym is)
          (subst (λ m. Replied ps input gs T T m (Ok x)) (sym (opened_as gs at (ap opens_any is) _ ∙ root_there ps S h _)) (
            x,
            opens p (tuple 1),
            refl,
            refl,
            tt,
            refl,
            record {
              more = [];
              reads = subst (λ qs. Reads T qs input S) (sym (append-nil ps)) h;
              opens = (r, refl, home-more ps [] r p home);
              few = ltb-false 33 (suc (length gs)) (sym at ∙ sym (and-true deep) ∙ sym (ap (λ k. deep && opens_any k) is) ∙ roomy);
              lengths = lengths_same T T refl;
            },
          ))

      -- an `end` is asked at no node
      pub responds_end : q ≡ questions.End → Responded col input r q deep T T (Err refusals.Count)
      unfolding Responded
      responds_end is ps S p gs h home few at =
          subst (λ k. Replied ps input gs T T (served col S p gs k) (Err refusals.Count)) (sym is)
          (subst (λ m. Replied ps input gs T T m (Err refusals.Count)) (sym (root_there ps S h _)) (refl, spared-same T T refl))

      -- every other question asks its node
      pub responds : (T' : Sheets) (res : Result Heard Refusal) → (a : Ask) → q ≡ question_of a → (q ≡ questions.Tuple 1 → ⊥) → Consulted col input r q deep T T' res → Responded col input r q deep T T' res
      unfolding Responded Consulted
      responds T' res a is many consulted ps S p gs h home few at =
          subst (λ m. Replied ps input gs T T' m res) (sym (go a is)) (consulted ps S p gs a h home is few at)
        where
          go : (b : Ask) → q ≡ question_of b → served col S p gs q ≡ consult col S p gs b
          go (scalar? k) e = ap (served col S p gs) e ∙ root_there ps S h _
          go text? e = ap (served col S p gs) e ∙ root_there ps S h _
          go option? e = ap (served col S p gs) e ∙ root_there ps S h _
          go variant? e = ap (served col S p gs) e ∙ opened_as gs at (ap opens_any e) _ ∙ root_there ps S h _
          go (seq? flag) e = ap (served col S p gs) e ∙ opened_as gs at (ap opens_any e) _ ∙ root_there ps S h _
          go (map? flag) e = ap (served col S p gs) e ∙ opened_as gs at (ap opens_any e) _ ∙ root_there ps S h _
          go (tuple? zero) e = ap (served col S p gs) e ∙ opened_as gs at (ap opens_any e) _ ∙ root_there ps S h _
          go (tuple? (suc zero)) e = absurd (many e)
          go (tuple? (suc (suc n))) e = ap (served col S p gs) e ∙ opened_as gs at (ap opens_any e) _ ∙ root_there ps S h _
