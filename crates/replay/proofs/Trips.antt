-- A document that was written and is read back: each question is answered with its call's value, and finish is accepted.
use Rattle.std.proofs.Common.{◌≡◌, ℕ, suc, ◌≤◌, Bool, true, false, cond, inl, inr, List, [], ◌∷◌, ◌++◌, map as each, length, take, replicate, leb, Decides, Ok, Err, Result, Option, Some, sym, refl, ap, ap₂, subst, ◌∙◌, append_assoc, append-nil}
use Rattle.std.proofs.Math.Seq.{take-append_seam}
use Rattle.column.specs.Meaning.{Meaning, Lawful}
use Rattle.column.specs.Interface.{overlaid}
use Rattle.document.specs.declared.refusals.Refusal.{Refusal}
use Rattle.document.specs.declared.refusals.Refusal.TheVariants as refusals
use Rattle.document.specs.declared.questions.Question.{Question}
use Rattle.document.specs.Calls.{Call, val, end}
use Rattle.document.specs.Places.{Place, start}
use Rattle.document.specs.Trace.{trace, places_after}
use Rattle.document.specs.Bytes.{bytes}
use Rattle.document.specs.Tables.{cells_of}
use Rattle.document.specs.Said.{said, asked}
use Rattle.document.specs.Verdict.{Sizes, Accepted, Done}
use Rattle.document.specs.WriteOut.{none_open}
use Rattle.document.specs.Reader.{Reading, Reply, reply, refuse, begin, answer}
use Rattle.document.specs.Replay.{Replay, heard, stopped, hearing, ending, also, going, replay, finish}
use Rattle.document.specs.Theorems.{Asks, Asked, Replays, AskedAlike, Faithful}
use Rattle.document.proofs.Accepted.{replays, faithful}
use Rattle.ser.specs.Out.{begins, wrote, output_after}
use Rattle.ser.specs.Standing.{WrittenOut}
use Rattle.de.specs.Standing.{ended}
use Rattle.replay.specs.declared.steps.Step.{Step}
use Rattle.replay.specs.declared.trip.Mismatch.{Mismatch}
use Rattle.replay.specs.Given.{calls_of, takes, given, kept, marked}
use Rattle.replay.specs.Listening.{Asking, askings, ending_of, Listened, Listens}
use Rattle.replay.specs.declared.trip.Heard.{Heard}
use Rattle.replay.specs.Trips.{called, FlagFits, Flagged, ReadBack, ComesBack}
use Rattle.replay.specs.Compared.{WroteBoth, SameBytes, ToldApart}

-- ---- what is kept is what is asked for

-- one call: accepted, it is kept and asked for, else neither
kept_one : (t : Bool) (done : List Call) (a : Asking) (xs : List Asking) → cond t (done ++ a.call ∷ []) done ++ called xs ≡ done ++ called (cond t (a ∷ xs) xs)
kept_one true done a xs = append_assoc done (a.call ∷ []) (called xs)
kept_one false done a xs = refl

-- the accepted calls of some steps are those that they ask for
pub kept_called : (sizes : Sizes) (done : List Call) (ss : List Step) → kept sizes done (calls_of ss) ≡ done ++ called (askings (marked sizes done ss))
kept_called sizes done [] = sym (append-nil done)
kept_called sizes done (s ∷ ss) =
    kept_called sizes (given sizes done (said s.call)) ss
    ∙ kept_one (takes sizes done (said s.call)) done (record { call = said s.call; flag = s.no_size }) (askings (marked sizes (given sizes done (said s.call)) ss))

-- ---- all of it is heard

-- the questions
abbrev questions_of : List Asking → List Question
questions_of xs = each (λ a. asked a.flag a.call) xs

-- a question whose flag fits asks for its call
asks_call : (flag : Bool) (c : Call) → FlagFits flag c → Asks (asked flag c) c
asks_call flag (val v) f = (flag, refl, f)
asks_call flag end f = refl

-- .. and so do all
asks_all : (xs : List Asking) → Flagged xs → Asked (questions_of xs) (called xs)
asks_all [] f = tt
asks_all (a ∷ xs) f = (asks_call a.flag a.call f.0, asks_all xs f.1)

-- what was heard first, and what finish accepts of the rest
first_heard : (c d : Call) (x : Replay) (cs : List Call) → finish (also c x) ≡ heard (d ∷ cs) [] → (c ≡ d) × (finish x ≡ heard cs [])
first_heard c d (heard ds []) cs e = (cc, cc)
first_heard c d (heard ds (b ∷ bs)) cs e = (cc, cc)
first_heard c d (stopped r) cs e = (cc, cc)

-- where nothing is left, finish is accepted
ends_same : (fs : List Place) (bs : List ℕ) → finish (ending fs bs) ≡ heard [] [] → ending_of (ended fs bs) ≡ Ok tt
ends_same [] [] e = refl
ends_same [] (b ∷ bs) e = cc
ends_same (f ∷ fs) bs e = cc

-- one question, and those after it
heard_first : (input : List ℕ) (c : Call) (cs : List Call) (later : Reading → Replay) (More : Reading → ℕ → Type 0) (k n : ℕ) (e : Result (Unit {0}) Mismatch) (x : Reply)
    → ((R : Reading) (m : ℕ) → finish (later R) ≡ heard cs [] → More R m → (m ≡ k) × (e ≡ Ok tt))
    → finish (going input x later) ≡ heard (c ∷ cs) [] → Listened input c More n e x → (n ≡ suc k) × (e ≡ Ok tt)
heard_first input c cs later More k n e (refuse r) more h l = (cc, cc)
heard_first input c cs later More k n e (reply d place R) more h (inl (is, (m, count, l))) =
    let (same, end_is) = more R m (first_heard (hearing input d place) c (later R) cs h).1 l in (count ∙ ap suc same, end_is)
heard_first input c cs later More k n e (reply d place R) more h (inr (not, count, is)) = absurd (not (first_heard (hearing input d place) c (later R) cs h).0)

-- of a reading that hears the calls, all is heard
all_from : (col : Meaning) (input : List ℕ) (xs : List Asking) (R : Reading) (n : ℕ) (e : Result (Unit {0}) Mismatch) → finish (replay col input R (questions_of xs)) ≡ heard (called xs) [] → Listens col input R xs n e → (n ≡ length xs) × (e ≡ Ok tt)
all_from col input [] R n e h l = (l.0, l.1 ∙ ends_same R.places R.store.input h)
all_from col input (a ∷ xs) R n e h l =
    heard_first input a.call (called xs) (λ S. replay col input S (questions_of xs)) (λ S m. Listens col input S xs m e) (length xs) n e (answer col R.store R.places (asked a.flag a.call)) (λ S m. all_from col input xs S m e) h l

-- the bytes of an accepted document, read back by a reader with tables no smaller than the writer's: each answer is its call's value, and finish is accepted
pub all_heard : (col : Meaning) → Lawful col → Replays → (sizes : Sizes) (xs : List Asking) → Accepted sizes (called xs) → Done (called xs) → Flagged xs → (nodes slots : ℕ) → sizes.nodes ≤ nodes → sizes.cells ≤ slots
    → (n : ℕ) (e : Result (Unit {0}) Mismatch) → Listens col (bytes col (called xs)) (begin nodes slots (bytes col (called xs))) xs n e → (n ≡ length xs) × (e ≡ Ok tt)
all_heard col law replays sizes xs a d f nodes slots p q n e l =
    all_from col (bytes col (called xs)) xs (begin nodes slots (bytes col (called xs))) n e (replays col law sizes (called xs) a d (questions_of xs) (asks_all xs f) nodes slots p q) l

-- ---- what was written

-- the bytes stand at the beginning of an output that has room for them
begun_output : (image output : List ℕ) → take (length image) (overlaid 0 image output) ≡ image
begun_output image output = take-append_seam image _

-- accepted, write-out began, and the bytes found room
bytes_ok : (begun room : Bool) (n : ℕ) (image zeros output : List ℕ) → Ok n ≡ cond begun (cond room (Ok (length image)) (Err refusals.Room)) (Err refusals.Scratch)
    → (n ≡ length image) × (take n (cond begun (cond room (overlaid 0 image output) zeros) output) ≡ image)
bytes_ok true true n image zeros output e = let count : n ≡ length image = cc in (count, ap (λ k. take k (overlaid 0 image output)) count ∙ begun_output image output)
bytes_ok true false n image zeros output e = cc
bytes_ok false room n image zeros output e = cc

-- .. and the document is complete
wrote_ok : (fs : List Place) (cells n : ℕ) (image scratch output : List ℕ) → Ok n ≡ wrote (none_open fs) cells image scratch output
    → (fs ≡ []) × (n ≡ length image) × (take n (output_after (begins (none_open fs) cells scratch) image output) ≡ image)
wrote_ok (f ∷ fs) cells n image scratch output e = cc
wrote_ok [] cells n image scratch output e =
    let (count, part) = bytes_ok (leb cells (length scratch)) (leb (length image) (length output)) n image (replicate (length output) 0) output e in (refl, count, part)

-- write-out's answer, where it is accepted
pub written_ok : (col : Meaning) (cs : List Call) (scratch scratch' output output' : List ℕ) (r : Result ℕ Refusal) (n : ℕ) → WrittenOut col cs scratch scratch' output output' r → r ≡ Ok n
    → Done cs × (n ≡ length (bytes col cs)) × (take n output' ≡ bytes col cs)
written_ok col cs scratch scratch' output output' r n w ok =
    let (d, count, part) = wrote_ok (places_after start cs) (cells_of (trace start cs)) n (bytes col cs) scratch output (sym ok ∙ w.answer) in (d, count, ap (take n) w.written ∙ part)

-- ---- told apart by bytes

-- a test of the bytes tests the lists
pub apart_by_bytes : (col : Meaning) → Lawful col → Faithful → (one two : Sizes) (cs ds : List Call) → Accepted one cs → Accepted two ds → Done cs → Done ds → AskedAlike cs ds → (b : Bool) → Decides b (bytes col cs ≡ bytes col ds) → Decides b (cs ≡ ds)
apart_by_bytes col law faithful one two cs ds a a' d d' alike b t =
    let both = faithful col law one two cs ds a d a' d' alike in (λ is. both.0 (t.0 is), λ same. t.1 (both.1 same))

-- so what was written out and read back comes back
pub comes_back : (col : Meaning) → Lawful col → (sizes : Sizes) (xs : List Asking) (cs : List Call) → cs ≡ called xs → Accepted sizes cs → (scratch scratch' output output' : List ℕ) (r : Result ℕ Refusal) (h : Option Heard) (nodes slots : ℕ)
    → WrittenOut col cs scratch scratch' output output' r → ReadBack col output' nodes slots xs r h → ComesBack sizes nodes slots xs r h
comes_back col law sizes xs cs same a scratch scratch' output output' r h nodes slots w back n ok f p q =
    let (d, count, part) = written_ok col cs scratch scratch' output output' r n w ok in
    let (x, is, l) = subst (λ s. ReadBack col output' nodes slots xs s h) ok back in
    let whole : take n output' ≡ bytes col (called xs) = part ∙ ap (bytes col) same in
    let (all, ends) = all_heard col law replays sizes xs (subst (Accepted sizes) same a) (subst Done same d) f nodes slots p q x.count x.ending (subst (λ input. Listens col input (begin nodes slots input) xs x.count x.ending) whole l) in
    is ∙ ap₂ (λ m e. let y : Option Heard = Some (record { count = m; ending = e }) in y) all ends

-- and two that were written out and are asked alike are told apart by their bytes
pub told_apart : (col : Meaning) → Lawful col → (sizes : Sizes) (cs ds : List Call) → Accepted sizes cs → Accepted sizes ds → (scratch scratch' one one' other other' : List ℕ) (r s : Result ℕ Refusal) (a : Option Bool)
    → WroteBoth col cs ds scratch scratch' one one' other other' r s → SameBytes r s one' other' a → ToldApart cs ds a
told_apart col law sizes cs ds ac ad scratch scratch' one one' other other' r s a (between, w, v) same b is alike = go r s refl refl same
  where
    go : (r' s' : Result ℕ Refusal) → r ≡ r' → s ≡ s' → SameBytes r' s' one' other' a → Decides b (cs ≡ ds)
    go (Ok n) (Ok m) e f (b', is', t) =
        let (d, x, part) = written_ok col cs scratch between one one' r n w e in
        let (d', y, part') = written_ok col ds between scratch' other other' s m v f in
        let flag : b' ≡ b = cc in
        apart_by_bytes col law faithful sizes sizes cs ds ac ad d d' alike b (subst (λ z. Decides z (bytes col cs ≡ bytes col ds)) flag (λ o. sym part ∙ t.0 o ∙ part', λ o. t.1 (part ∙ o ∙ sym part')))
    go (Ok n) (Err x) e f q = cc
    go (Err x) s' e f q = cc
