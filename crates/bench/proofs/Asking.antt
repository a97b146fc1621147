-- One question after another.
use Rattle.std.proofs.Common.{◌≡◌, ℕ, ◌+◌, ◌%◌, ◌^◌, ◌<◌, ◌≤◌, List, [], ◌∷◌, length, get_or, drop, Ok, Err, Result, sym, refl, ap, ◌∙◌, subst, add-one, drop-cons}
use Rattle.std.proofs.Math.ListN.{drop_of_length-le}
use Rattle.column.specs.Meaning.{Meaning}
use Rattle.document.specs.declared.refusals.Refusal.{Refusal}
use Rattle.document.specs.declared.scalars.Scalar.TheVariants as scalars
use Rattle.document.specs.declared.questions.Answer.{Answer}
use Rattle.document.specs.declared.questions.Question.{Question}
use Rattle.document.specs.declared.questions.Question.TheVariants as questions
use Rattle.document.specs.Reader.{Reading, Reply, reply, refuse, answer}
use Rattle.document.specs.Replay.{replay, going, finish, hearing}
use Rattle.de.specs.declared.reader.Reader.{Reader}
use Rattle.de.specs.Answered.{Answers, Within}
use Rattle.de.specs.Standing.{Stands, finishing}
use Rattle.de.specs.Readers.{StandsFor, Tells, KeepsLengths}
use Rattle.de.proofs.Sizes.{lengths_trans}
use Rattle.bench.specs.declared.tally.Tally.{Tally}
use Rattle.bench.specs.Tallies.{amount}
use Rattle.bench.specs.Hearing.{Counts, AskedOnce}
use Rattle.bench.proofs.Counting.{counts-as, counts-also, counts-end, counts-refused}

-- a question, where there is none
abbrev pub no_question : Question
no_question = questions.Scalar scalars.Bool

-- the questions from here on
pub questions-here : (qs : List Question) (i : ℕ) → i < length qs → drop i qs ≡ get_or qs i no_question ∷ drop (i + 1) qs
questions-here qs i l = drop-cons qs i no_question l ∙ ap (λ k. get_or qs i no_question ∷ drop k qs) (sym (add-one i))

-- none is left at the end
pub questions-end : (qs : List Question) (i : ℕ) → length qs ≤ i → drop i qs ≡ []
questions-end qs i l = drop_of_length-le qs l

-- ---- one question

module _ (col : Meaning) (input : List ℕ) {C : Type 0} (r after : Reader C) (q : Question) (res : Result Answer Refusal) (R : Reading) (told : Tells r after R (answer col R.store R.places q) res) where
  module _ (a : Answer) (is : res ≡ Ok a) (input_at : r.input.now ≡ input) where
    -- it is answered
    pub asked-answered : after.input ≡ r.input → (old t : Tally) → t.answers ≡ (old.answers + amount a) % 2 ^ 64 → AskedOnce input old after (Ok t) (answer col R.store R.places q)
    asked-answered kept old t sum = go (answer col R.store R.places q) told
      where
        go : (y : Reply) → Tells r after R y res → AskedOnce input old after (Ok t) y
        go (refuse d) h = cc h.0
        go (reply d place S) (b, ok, ans, within, lengths, s) =
            let same : b ≡ a = cc in
            let counts = counts-as a d place input (subst (λ z. Answers z d place) same ans) (subst (λ z. Within z d place) input_at within) in
            (t, refl, sum ∙ ap (λ n. (old.answers + n) % 2 ^ 64) counts, subst (λ b. Stands after.desk b.now S) (sym kept) s)

-- what asking told, of the same column kind
pub asked-as : {C K : Type 0} (meaning : K → Meaning) (k k' : K) → k ≡ k' → (input : List ℕ) (old : Tally) (q : Question) (r after : Reader C) (res : Result Tally Refusal)
    → ((R : Reading) → StandsFor r R → AskedOnce input old after res (answer (meaning k) R.store R.places q)) → (R : Reading) → StandsFor r R → AskedOnce input old after res (answer (meaning k') R.store R.places q)
asked-as meaning k k' e input old q r after res told R st = subst (λ j. AskedOnce input old after res (answer (meaning j) R.store R.places q)) e (told R st)

-- ---- one after another

-- Some questions were answered, with this tally: what is heard of those that are left makes what is heard of all.
pub record Along (col : Meaning) (input : List ℕ) {C : Type 0} (old : Reader C) (all : List Question) (r : Reader C) (t : Tally) (left : List Question) : Type 0 where
  pub kind : r.kind ≡ old.kind
  pub input_is : r.input ≡ old.input
  pub lengths : KeepsLengths old r
  pub went : (R : Reading) → StandsFor old R
      → (R' : Reading) × StandsFor r R' × ((x : Result Tally Refusal) → Counts t.answers (finish (replay col input R' left)) x → Counts 0 (finish (replay col input R all)) x)

module _ (col : Meaning) (input : List ℕ) {C : Type 0} (old : Reader C) (all : List Question) where
  module _ (r after : Reader C) (t : Tally) (q : Question) (left : List Question) (a : Along col input old all r t (q ∷ left)) (res : Result Tally Refusal)
      (told : (R : Reading) → StandsFor r R → AskedOnce input t after res (answer col R.store R.places q)) where
    -- the next question is refused
    pub along-stopped : (e : Refusal) → res ≡ Err e → (R : Reading) → StandsFor old R → Counts 0 (finish (replay col input R all)) (Err e)
    along-stopped e stop R st = let (R', s', h) = a.went R st in h (Err e) (go R' (answer col R'.store R'.places q) (told R' s'))
      where
        go : (R' : Reading) (y : Reply) → AskedOnce input t after res y → Counts t.answers (finish (going input y (λ s. replay col input s left))) (Err e)
        go R' (refuse d) h = sym stop ∙ h
        go R' (reply d place S) h = cc (h.1, stop)

    -- it is answered
    pub along-more : (u : Tally) → res ≡ Ok u → after.kind ≡ r.kind → after.input ≡ r.input → KeepsLengths r after → Along col input old all after u left
    along-more u ok k kept size = record {
      kind = k ∙ a.kind;
      input_is = kept ∙ a.input_is;
      lengths = lengths_trans a.lengths size;
      went = λ R st. let (R', s', h) = a.went R st in on R R' h (answer col R'.store R'.places q) refl (told R' s');
    }
      where
        on : (R R' : Reading) → ((x : Result Tally Refusal) → Counts t.answers (finish (replay col input R' (q ∷ left))) x → Counts 0 (finish (replay col input R all)) x)
            → (y : Reply) → answer col R'.store R'.places q ≡ y → AskedOnce input t after res y
            → (S : Reading) × StandsFor after S × ((x : Result Tally Refusal) → Counts u.answers (finish (replay col input S left)) x → Counts 0 (finish (replay col input R all)) x)
        on R R' h (refuse d) e s = cc (s, ok)
        on R R' h (reply c place S) e (v, is, sum, st) =
            let same : v ≡ u = cc in (
              S,
              st,
              λ x more. h x (subst (λ y. Counts t.answers (finish (going input y (λ s. replay col input s left))) x) (sym e)
                  (counts-also t.answers (hearing input c place) (replay col input S left) x (subst (λ s. Counts s (finish (replay col input S left)) x) (sym (ap (λ w. w.answers) same) ∙ sum) more))),
            )

  module _ (r : Reader C) (t : Tally) (a : Along col input old all r t []) (res : Result (Unit {0}) Refusal) (fin : (R : Reading) → StandsFor r R → res ≡ finishing R) where
    -- all were answered, and finish is accepted
    pub along-end : res ≡ Ok tt → (R : Reading) → StandsFor old R → Counts 0 (finish (replay col input R all)) (Ok t)
    along-end ok R st = let (R', s, h) = a.went R st in h (Ok t) (counts-end t R'.places R'.store.input (sym (fin R' s) ∙ ok))

    -- .. or refused
    pub along-refused : (e : Refusal) → res ≡ Err e → (R : Reading) → StandsFor old R → Counts 0 (finish (replay col input R all)) (Err e)
    along-refused e err R st = let (R', s, h) = a.went R st in h (Err e) (counts-refused t.answers e R'.places R'.store.input (sym (fin R' s) ∙ err))
