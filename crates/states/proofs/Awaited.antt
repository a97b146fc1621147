-- What a reader awaits is read, one question after another.
use Rattle.std.proofs.Common.{◌≡◌, ℕ, ◌≤◌, false, List, [], ◌∷◌, ◌++◌, Ok, Err, Result, MatchResult, IsErrAnd, sym, refl, ap, ◌∙◌, subst, append_assoc, append-nil}
use Rattle.column.specs.Meaning.{Meaning, Lawful}
use Rattle.column.proofs.Choice.{passed_on}
use Rattle.document.specs.declared.refusals.Refusal.{Refusal}
use Rattle.document.specs.declared.questions.Question.{Question}
use Rattle.document.specs.Calls.{Call, val, end}
use Rattle.document.specs.Places.{Place}
use Rattle.document.specs.Bytes.{bytes}
use Rattle.document.specs.Said.{asked}
use Rattle.document.specs.Verdict.{Sizes, Accepted, Done}
use Rattle.document.specs.Reader.{Reading, Reply, reply, refuse, answer, begin}
use Rattle.document.specs.Replay.{Replay, heard, stopped, hearing, also, ending, going, replay, finish}
use Rattle.document.specs.Theorems.{Asks, Asked}
use Rattle.document.proofs.Accepted.{replays}
use Rattle.de.specs.declared.reader.Reader.{Reader}
use Rattle.de.specs.Standing.{ended, finishing}
use Rattle.de.specs.Readers.{StandsFor, KeepsLengths}
use Rattle.de.proofs.Sizes.{lengths_trans}
use Rattle.states.specs.declared.message.MessageError.{MessageError}
use Rattle.states.specs.declared.message.MessageError.TheVariants.{Memory}
use Rattle.states.specs.Awaiting.{HeardAs, Hears, Awaits, Reads}

-- the error of a part, which is want of memory, is the error of the whole
pub wanting : {Y : Type 0} (P : Y → Type 0) (s : Result Y MessageError) (e : MessageError) → IsErrAnd s (λ y. y ≡ e) → e ≡ Memory → MatchResult s P (λ e. e ≡ Memory)
wanting P s e fails is = rw (passed_on s e fails) is

-- ---- one after another

-- Some questions were answered: what is known of the value by now, and which of its calls are left.
pub record Along {C X : Type 0} (meaning : C → Meaning) (input : List ℕ) (old now : Reader C) (calls : X → List Call) (Knows : X → Type 0) (left : X → List Call) : Type 0 where
  pub lengths : KeepsLengths old now
  pub along : (x : X) (rest : List Call) → Awaits meaning input old (calls x ++ rest) → Knows x × Awaits meaning input now (left x ++ rest)

-- none yet
pub begun : {C X : Type 0} (meaning : C → Meaning) (input : List ℕ) (r : Reader C) (calls : X → List Call) → Along meaning input r r calls (λ x. Unit {0}) calls
begun meaning input r calls = record { lengths = record { nodes = refl; slots = refl }; along = λ x rest w. (tt, w) }

-- a part of the value is read
pub read-next : {C X P A : Type 0} {meaning : C → Meaning} {input : List ℕ} {old r new : Reader C} {calls left : X → List Call} {Knows : X → Type 0} {parts : P → List Call} {Same : A → P → Type 0} {a : A}
    (Knows' : X → Type 0) (left' : X → List Call) → ((x : X) → Knows x → (p : P) × (left x ≡ parts p ++ left' x) × (Same a p → Knows' x))
    → Along meaning input old r calls Knows left → Reads meaning input r new parts Same (Ok a) → Along meaning input old new calls Knows' left'
read-next {meaning = meaning} {input = input} {r = r} {parts = parts} Knows' left' split before t = record {
  lengths = lengths_trans before.lengths t.lengths;
  along = λ x rest w.
      let (k, w') = before.along x rest w in
      let (p, is, knows) = split x k in
      let (same, next) = t.reads p (left' x ++ rest) (subst (Awaits meaning input r) (ap (λ cs. cs ++ rest) is ∙ append_assoc (parts p) (left' x) rest) w') in
      (knows same, next);
}

-- .. or is not, for want of memory
pub read-failed : {C X P A Y : Type 0} {meaning : C → Meaning} {input : List ℕ} {old r new : Reader C} {calls left : X → List Call} {Knows : X → Type 0} {parts : P → List Call} {Same : A → P → Type 0} {e : MessageError}
    (after : X → List Call) (Same' : Y → X → Type 0) (s : Result Y MessageError) → ((x : X) → Knows x → (p : P) × (left x ≡ parts p ++ after x)) → IsErrAnd s (λ y. y ≡ e)
    → Along meaning input old r calls Knows left → Reads meaning input r new parts Same (Err e) → Reads meaning input old new calls Same' s
read-failed {meaning = meaning} {input = input} {r = r} {parts = parts} after Same' s split fails before t = record {
  lengths = lengths_trans before.lengths t.lengths;
  reads = λ x rest w.
      let (k, w') = before.along x rest w in
      let (p, is) = split x k in
      let e = t.reads p (after x ++ rest) (subst (Awaits meaning input r) (ap (λ cs. cs ++ rest) is ∙ append_assoc (parts p) (after x) rest) w') in
      wanting _ s _ fails e;
}

-- there was no memory for what was read
pub no-memory : {C X Y : Type 0} {meaning : C → Meaning} {input : List ℕ} {old r : Reader C} {calls left : X → List Call} {Knows : X → Type 0} (Same : Y → X → Type 0) (s : Result Y MessageError) → IsErrAnd s (λ y. y ≡ Memory)
    → Along meaning input old r calls Knows left → Reads meaning input old r calls Same s
no-memory Same s fails before = record { lengths = before.lengths; reads = λ x rest w. wanting _ s Memory fails refl }

-- all of it is read
pub read-all : {C X Y : Type 0} {meaning : C → Meaning} {input : List ℕ} {old r : Reader C} {calls left : X → List Call} {Knows : X → Type 0} (y : Y) (Same : Y → X → Type 0) → ((x : X) → Knows x → (left x ≡ []) × Same y x)
    → Along meaning input old r calls Knows left → Reads meaning input old r calls Same (Ok y)
read-all {meaning = meaning} {input = input} {r = r} y Same whole before = record {
  lengths = before.lengths;
  reads = λ x rest w.
      let (k, w') = before.along x rest w in
      let (is, same) = whole x k in
      (same, subst (Awaits meaning input r) (ap (λ cs. cs ++ rest) is) w');
}

-- .. and nothing follows
pub whole-read : {C X Y : Type 0} {meaning : C → Meaning} {input : List ℕ} {old new : Reader C} {calls : X → List Call} {Same : Y → X → Type 0} {r : Result Y MessageError} → Reads meaning input old new calls Same r
    → (x : X) → Awaits meaning input old (calls x) → MatchResult r (λ y. Same y x × Awaits meaning input new []) (λ e. e ≡ Memory)
whole-read {meaning = meaning} {input = input} {old = old} {calls = calls} t x w = t.reads x [] (subst (Awaits meaning input old) (sym (append-nil (calls x))) w)

-- ---- a document from its beginning

-- where nothing is left, finish is accepted
ends : (fs : List Place) (bs : List ℕ) → finish (ending fs bs) ≡ heard [] [] → ended fs bs ≡ Ok tt
ends [] [] e = refl
ends [] (b ∷ bs) e = cc
ends (f ∷ fs) bs e = cc

-- what was heard first, and what finish accepts of the rest
first-heard : (c d : Call) (x : Replay) (cs : List Call) → finish (also c x) ≡ heard (d ∷ cs) [] → (c ≡ d) × (finish x ≡ heard cs [])
first-heard c d (heard ds []) cs e = (cc, cc)
first-heard c d (heard ds (b ∷ bs)) cs e = (cc, cc)
first-heard c d (stopped r) cs e = (cc, cc)

-- each call's question
questions : List Call → List Question
questions [] = []
questions (c ∷ cs) = asked false c ∷ questions cs

asks : (c : Call) → Asks (asked false c) c
asks (val v) = (false, refl, λ t. absurd t)
asks end = refl

all-asked : (cs : List Call) → Asked (questions cs) cs
unfolding questions
all-asked [] = tt
all-asked (c ∷ cs) = (asks c, all-asked cs)

-- one call, and those after it
hears-first : (input : List ℕ) (c : Call) (cs : List Call) (later : Reading → Replay) (More : Reading → Type 0) (y : Reply) → ((S : Reading) → finish (later S) ≡ heard cs [] → More S)
    → finish (going input y later) ≡ heard (c ∷ cs) [] → HeardAs input c More y
hears-first input c cs later More (refuse r) more e = cc
hears-first input c cs later More (reply d place S) more e = let (same, rest) = first-heard (hearing input d place) c (later S) cs e in (same, more S rest)

-- what a whole reading hears is heard call by call
hears : (col : Meaning) (input : List ℕ) (cs : List Call) (R : Reading) → finish (replay col input R (questions cs)) ≡ heard cs [] → Hears col input R cs
unfolding questions
hears col input [] R e = ends R.places R.store.input e
hears col input (c ∷ cs) R e =
    hears-first input c cs (λ s. replay col input s (questions cs)) (λ S. Hears col input S cs) (answer col R.store R.places (asked false c)) (λ S f. hears col input cs S f) e

-- a new reader over the bytes of an accepted document awaits its calls
pub document-awaited : {C : Type 0} (meaning : C → Meaning) (r : Reader C) (cs : List Call) (sizes : Sizes) (nodes slots : ℕ) (input : List ℕ) → Lawful (meaning r.kind.now) → Accepted sizes cs → Done cs → sizes.nodes ≤ nodes → sizes.cells ≤ slots
    → input ≡ bytes (meaning r.kind.now) cs → StandsFor r (begin nodes slots input) → r.input.now ≡ input → Awaits meaning input r cs
document-awaited meaning r cs sizes nodes slots input law accepted complete p q is stands over = record {
  reading = begin nodes slots input;
  stands = stands;
  over = over;
  hears = subst (λ i. Hears (meaning r.kind.now) i (begin nodes slots i) cs) (sym is) (hears (meaning r.kind.now) (bytes (meaning r.kind.now) cs) cs (begin nodes slots (bytes (meaning r.kind.now) cs)) (replays (meaning r.kind.now) law sizes cs accepted complete (questions cs) (all-asked cs) nodes slots p q));
}

-- nothing is left: finish is accepted
pub finish-accepted : {C : Type 0} {meaning : C → Meaning} {input : List ℕ} (r : Reader C) (res : Result (Unit {0}) Refusal) → ((R : Reading) → StandsFor r R → res ≡ finishing R) → Awaits meaning input r [] → res ≡ Ok tt
finish-accepted r res fin w = fin w.reading w.stands ∙ w.hears
