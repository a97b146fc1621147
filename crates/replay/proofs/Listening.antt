-- Asking for one accepted call after another.
use Rattle.std.proofs.Common.{◌≡◌, ℕ, suc, ◌+◌, ◌<◌, ◌≤◌, Bool, true, false, List, [], ◌∷◌, length, get_or, drop, Ok, Err, Result, sym, refl, ap, ◌∙◌, subst, inl, inr, ◌⊎◌, add-one, arith, drop-cons}
use Rattle.std.proofs.Math.ListN.{drop_of_length-le}
use Rattle.std.proofs.lemmas.Bool.{cond-true, cond-false}
use Rattle.column.specs.Meaning.{Meaning}
use Rattle.document.specs.declared.refusals.Refusal.{Refusal}
use Rattle.document.specs.declared.questions.Answer.{Answer}
use Rattle.document.specs.declared.questions.Question.{Question}
use Rattle.document.specs.Calls.{Call}
use Rattle.document.specs.Said.{said, asked}
use Rattle.document.specs.Reader.{Reading, Reply, reply, refuse, answer}
use Rattle.de.specs.declared.reader.Reader.{Reader}
use Rattle.de.specs.Answered.{Answers, Within}
use Rattle.de.specs.Standing.{Stands, finishing}
use Rattle.de.specs.Readers.{StandsFor, Tells, KeepsLengths}
use Rattle.de.proofs.Sizes.{lengths_trans}
use Rattle.replay.specs.declared.steps.Step.{Step}
use Rattle.replay.specs.declared.trip.Mismatch.{Mismatch}
use Rattle.replay.specs.declared.trip.Mismatch.TheVariants.{Other}
use Rattle.replay.specs.Says.{Says}
use Rattle.replay.specs.Listening.{Asking, askings, ending_of, Listened, Listens, Matched}
use Rattle.replay.proofs.Giving.{no_step}
use Rattle.replay.proofs.Hearing.{hears_says}

-- ---- the calls that are asked for

-- a call that is asked for, by its step
abbrev pub asking_of : Step → Asking
asking_of s = record { call = said s.call; flag = s.no_size }

module _ (ss : List Step) (i : ℕ) (l : i < length ss) where
  -- the steps from here on
  here : drop i ss ≡ get_or ss i no_step ∷ drop (i + 1) ss
  here = drop-cons ss i no_step l ∙ ap (λ k. get_or ss i no_step ∷ drop k ss) (sym (add-one i))

  -- a step that was accepted is asked for next
  pub askings-accepted : (get_or ss i no_step).accepted ≡ true → askings (drop i ss) ≡ asking_of (get_or ss i no_step) ∷ askings (drop (i + 1) ss)
  askings-accepted e = ap askings here ∙ cond-true (get_or ss i no_step).accepted (asking_of (get_or ss i no_step) ∷ askings (drop (i + 1) ss)) (askings (drop (i + 1) ss)) e

  -- another one is passed over
  pub askings-refused : (get_or ss i no_step).accepted ≡ false → askings (drop i ss) ≡ askings (drop (i + 1) ss)
  askings-refused e = ap askings here ∙ cond-false (get_or ss i no_step).accepted (asking_of (get_or ss i no_step) ∷ askings (drop (i + 1) ss)) (askings (drop (i + 1) ss)) e

-- none is left at the end
pub askings-end : (ss : List Step) (i : ℕ) → length ss ≤ i → askings (drop i ss) ≡ []
askings-end ss i l = ap askings (drop_of_length-le ss l)

-- ---- one question

module _ (col : Meaning) (input : List ℕ) {C : Type 0} (r after : Reader C) (flag : Bool) (c : Call) (res : Result Answer Refusal) (R : Reading) (told : Tells r after R (answer col R.store R.places (asked flag c)) res) where
  module _ (a : Answer) (is : res ≡ Ok a) (input_at : r.input.now ≡ input) (kept : after.input ≡ r.input) where
    -- it is answered
    answered : (end : Result (Unit {0}) Mismatch) → (Says a c input × (end ≡ Ok tt)) ⊎ ((Says a c input → ⊥) × (end ≡ Err Other)) → Matched input c after end (answer col R.store R.places (asked flag c))
    answered end says = go (answer col R.store R.places (asked flag c)) refl told says
      where
        go : (y : Reply) → answer col R.store R.places (asked flag c) ≡ y → Tells r after R y res → (Says a c input × (end ≡ Ok tt)) ⊎ ((Says a c input → ⊥) × (end ≡ Err Other)) → Matched input c after end y
        go (refuse d) e t h = cc t.0
        go (reply d place R') e (b, ok, ans, within, lengths, s) h =
            let same : b ≡ a = cc in
            let st : StandsFor after R' = subst (λ b. Stands after.desk b.now R') (sym kept) s in
            let both = hears_says col R.store R.places flag c d place R' a input e (subst (λ z. Answers z d place) same ans) (subst (λ z. Within z d place) input_at within) in
            elim h [ inl y ↦ inl (both.1 y.0, y.1, st) | inr n ↦ inr (λ q. n.0 (both.0 q), n.1) ]

    -- .. by the call's value
    pub matched_same : Says a c input → Matched input c after (Ok tt) (answer col R.store R.places (asked flag c))
    matched_same says = answered (Ok tt) (inl (says, refl))

    -- .. or by another
    pub matched_other : (Says a c input → ⊥) → Matched input c after (Err Other) (answer col R.store R.places (asked flag c))
    matched_other not = answered (Err Other) (inr (not, refl))

-- what a question told, of the question that it is
pub told_as : {C : Type 0} (col : Meaning) (q q' : Question) → q ≡ q' → (r after : Reader C) (res : Result Answer Refusal) (R : Reading) → Tells r after R (answer col R.store R.places q) res → Tells r after R (answer col R.store R.places q') res
told_as col q q' e r after res R told = subst (λ j. Tells r after R (answer col R.store R.places j) res) e told

-- what comparing told, of the same column kind
pub matched_as : {C K : Type 0} (meaning : K → Meaning) (k k' : K) → k ≡ k' → (input : List ℕ) (s : Step) (r after : Reader C) (res : Result (Unit {0}) Mismatch)
    → ((R : Reading) → StandsFor r R → Matched input (said s.call) after res (answer (meaning k) R.store R.places (asked s.no_size (said s.call)))) → (R : Reading) → StandsFor r R → Matched input (said s.call) after res (answer (meaning k') R.store R.places (asked s.no_size (said s.call)))
matched_as meaning k k' e input s r after res told R st = subst (λ j. Matched input (said s.call) after res (answer (meaning j) R.store R.places (asked s.no_size (said s.call)))) e (told R st)

-- ---- one after another

-- So many questions were answered by their calls' values: the reader stands for a reading from which those that are left are heard.
pub record Along (col : Meaning) (input : List ℕ) {C : Type 0} (old : Reader C) (all : List Asking) (r : Reader C) (count : ℕ) (left : List Asking) : Type 0 where
  pub kind : r.kind ≡ old.kind
  pub input_is : r.input ≡ old.input
  pub lengths : KeepsLengths old r
  pub went : (R : Reading) → StandsFor old R
      → (R' : Reading) × StandsFor r R' × ((n : ℕ) (e : Result (Unit {0}) Mismatch) → Listens col input R' left n e → Listens col input R all (count + n) e)

module _ (col : Meaning) (input : List ℕ) {C : Type 0} (old : Reader C) (all : List Asking) where
  module _ (r after : Reader C) (count : ℕ) (s : Step) (left : List Asking) (a : Along col input old all r count (asking_of s ∷ left)) (res : Result (Unit {0}) Mismatch)
      (told : (R : Reading) → StandsFor r R → Matched input (said s.call) after res (answer col R.store R.places (asked s.no_size (said s.call)))) where
    -- the next question is refused, or answered by another value
    pub along-stopped : (m : Mismatch) → res ≡ Err m → (R : Reading) → StandsFor old R → Listens col input R all count (Err m)
    along-stopped m stop R st =
        let (R', s', h) = a.went R st in
        let z : count + 0 ≡ count = omega arith in
        subst (λ k. Listens col input R all k (Err m)) z (h 0 (Err m) (go (answer col R'.store R'.places (asked s.no_size (said s.call))) (told R' s')))
      where
        go : (y : Reply) → Matched input (said s.call) after res y → Listened input (said s.call) (λ S k. Listens col input S left k (Err m)) 0 (Err m) y
        go (refuse e) t = (refl, sym stop ∙ t)
        go (reply d place S) (inl t) = cc t.1
        go (reply d place S) (inr t) = inr (t.0, refl, sym stop ∙ t.1)

    -- it is answered by the call's value
    pub along-more : res ≡ Ok tt → after.kind ≡ r.kind → after.input ≡ r.input → KeepsLengths r after → Along col input old all after (count + 1) left
    along-more ok k kept size = record {
      kind = k ∙ a.kind;
      input_is = kept ∙ a.input_is;
      lengths = lengths_trans a.lengths size;
      went = λ R st. let (R', s', h) = a.went R st in on R R' h (answer col R'.store R'.places (asked s.no_size (said s.call))) refl (told R' s');
    }
      where
        on : (R R' : Reading) → ((n : ℕ) (e : Result (Unit {0}) Mismatch) → Listens col input R' (asking_of s ∷ left) n e → Listens col input R all (count + n) e)
            → (y : Reply) → answer col R'.store R'.places (asked s.no_size (said s.call)) ≡ y → Matched input (said s.call) after res y
            → (S : Reading) × StandsFor after S × ((n : ℕ) (e : Result (Unit {0}) Mismatch) → Listens col input S left n e → Listens col input R all (count + 1 + n) e)
        on R R' h (refuse d) q t = cc t
        on R R' h (reply d place S) q (inl (same, t, st)) = (
          S,
          st,
          λ n e more.
              let z : count + suc n ≡ count + 1 + n = omega arith in
              subst (λ k. Listens col input R all k e) z (h (suc n) e (subst (Listened input (said s.call) (λ S m. Listens col input S left m e) (suc n) e) (sym q) (inl (same, (n, refl, more))))),
        )
        on R R' h (reply d place S) q (inr (other, t)) = cc t

  -- all were asked, and finish ends it
  pub along-end : (r : Reader C) (count : ℕ) (res : Result (Unit {0}) Refusal) → Along col input old all r count [] → ((R : Reading) → StandsFor r R → res ≡ finishing R)
      → (R : Reading) → StandsFor old R → Listens col input R all count (ending_of res)
  along-end r count res a fin R st =
      let (R', s, h) = a.went R st in
      let z : count + 0 ≡ count = omega arith in
      subst (λ m. Listens col input R all m (ending_of res)) z (h 0 (ending_of res) (refl, ap ending_of (fin R' s)))
