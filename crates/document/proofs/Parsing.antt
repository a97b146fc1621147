-- The open places take exactly the beginnings of documents: a place waits for so many values, and then perhaps for `end`.
use Rattle.std.proofs.Common.{◌≡◌, ℕ, zero, suc, ◌+◌, ◌-◌, ◌≤◌, Bool, true, false, cond, ◌↔◌, List, [], ◌∷◌, ◌++◌, length, refl, append_assoc, arith}
use Rattle.std.proofs.lemmas.List.{append-nil}
use Rattle.std.proofs.lemmas.Bool.{ltb-true, ltb-false, cond_both}
use Rattle.document.specs.declared.refusals.Refusal.TheVariants.{Count, Depth}
use Rattle.document.specs.Calls.{Value, scalar, text, unit, none, some, variant, seq, map, tuple, Call, val, end}
use Rattle.document.specs.Nodes.{Path, root, ◌▹◌, elem, key, value, field, alt}
use Rattle.document.specs.Entries.{Entry, leaves}
use Rattle.document.specs.Places.{Place, items, keys, vals, fields, lone, only, closing, Next, nowhere, there, next, full, opens, settle, too_many, Turn, stays, goes, tell, turn, start, Onward, Complete, Runs}
use Rattle.document.specs.Grammar.{Following, nothing, one, enclosed, follows, Values, no_more, plain, leads, encloses, Document}
use Rattle.document.specs.Theorems.{Grammatical}

-- ---- places

-- how many values a place waits for
abbrev wants : Place → ℕ
wants (items p n) = n
wants (keys p n) = n + n
wants (vals p n) = suc (n + n)
wants (fields p i n) = n
wants (lone p n) = n
wants (only p) = 1
wants closing = 0

-- what closes it after those
abbrev ends : Place → List Call
ends (items p n) = end ∷ []
ends (keys p n) = end ∷ []
ends (vals p n) = end ∷ []
ends (fields p i n) = end ∷ []
ends (lone p n) = end ∷ []
ends (only p) = []
ends closing = []

-- a place waits for a value, or for `end`, or is closed
data Stage (f : Place) : Type 0 where
  waits : (p : Path) (g : Place) → next f ≡ there p g → full f ≡ false → wants f ≡ suc (wants g) → ends f ≡ ends g → ((fs : List Place) → settle (f ∷ fs) ≡ f ∷ fs) → Stage f
  enough : next f ≡ nowhere → full f ≡ true → wants f ≡ 0 → ends f ≡ end ∷ [] → ((fs : List Place) → settle (f ∷ fs) ≡ f ∷ fs) → Stage f
  over : next f ≡ nowhere → full f ≡ false → wants f ≡ 0 → ends f ≡ [] → ((fs : List Place) → settle (f ∷ fs) ≡ settle fs) → Stage f

-- every place is at one of these stages
stage : (f : Place) → Stage f
stage (items p zero) = enough refl refl refl refl (λ fs. refl)
stage (items p (suc n)) = waits (p ▹ elem) (items p n) refl refl refl refl (λ fs. refl)
stage (keys p zero) = enough refl refl refl refl (λ fs. refl)
stage (keys p (suc n)) = waits (p ▹ key) (vals p n) refl refl (omega arith) refl (λ fs. refl)
stage (vals p n) = waits (p ▹ value) (keys p n) refl refl refl refl (λ fs. refl)
stage (fields p i zero) = enough refl refl refl refl (λ fs. refl)
stage (fields p i (suc n)) = waits (p ▹ field i) (fields p (suc i) n) refl refl refl refl (λ fs. refl)
stage (lone p zero) = enough refl refl refl refl (λ fs. refl)
stage (lone p (suc n)) = waits p (lone p n) refl refl refl refl (λ fs. refl)
stage (only p) = waits p closing refl refl refl refl (λ fs. refl)
stage closing = over refl refl refl refl (λ fs. refl)

-- one place is open, which waits for n values and then for es
abbrev Opens : ℕ → List Call → List Place → Type 0
Opens n es os = (h : Place) × (os ≡ h ∷ []) × (wants h ≡ n) × (ends h ≡ es)

-- what the open places are after a value that is so followed
abbrev Opened : Following → List Place → Type 0
Opened nothing os = os ≡ []
Opened one os = Opens 1 [] os
Opened (enclosed k) os = Opens k (end ∷ []) os

-- a value opens the place that waits for what follows it
opened : (p : Path) (v : Value) → Opened (follows v) (opens p v)
opened p (scalar k b) = refl
opened p (text bs) = refl
opened p unit = refl
opened p none = refl
opened p some = (only (p ▹ alt 1), refl, refl, refl)
opened p (variant i) = (only (p ▹ alt i), refl, refl, refl)
opened p (seq n) = (items p n, refl, refl, refl)
opened p (map n) = (keys p n, refl, refl, refl)
opened p (tuple zero) = (fields p 0 0, refl, refl, refl)
opened p (tuple (suc zero)) = (lone p 1, refl, refl, refl)
opened p (tuple (suc (suc n))) = (fields p 0 (suc (suc n)), refl, refl, refl)

-- places that a value leads to are taken if they are not too many, and only then
taken : (es : List Entry) (gs : List Place) (P : List Place → Type 0) → Onward (cond (too_many (length gs)) (stays Depth) (goes es (settle gs))) P ↔ ((length gs ≤ 33) × P (settle gs))
taken es gs P = cond_both (too_many (length gs)) (stays Depth) (goes es (settle gs)) (λ t. Onward t P ↔ ((length gs ≤ 33) × P (settle gs)))
    (λ e. (λ k. absurd k, λ h. absurd (omega (arith, ltb-true 33 (length gs) e, h.0))))
    (λ e. (λ k. (ltb-false 33 (length gs) e, k), λ h. h.1))

-- what holds of settled places holds before they settle, if it holds over closed ones
unsettled : (P : List Place → Type 0) → ((fs : List Place) → P fs → P (closing ∷ fs)) → (fs : List Place) → P (settle fs) → P fs
unsettled P c [] k = k
unsettled P c (items p n ∷ fs) k = k
unsettled P c (keys p n ∷ fs) k = k
unsettled P c (vals p n ∷ fs) k = k
unsettled P c (fields p i n ∷ fs) k = k
unsettled P c (lone p n ∷ fs) k = k
unsettled P c (only p ∷ fs) k = k
unsettled P c (closing ∷ fs) k = c fs (unsettled P c fs k)

-- a value's inner calls, what closes it and its later calls
regroup : (a b c d : List Call) → (a ++ (b ++ c)) ++ d ≡ a ++ (b ++ (c ++ d))
regroup a b c d = simp append_assoc

-- ---- values complete the places that wait for them

-- the calls complete every place that waits for n values and has room for d more places
abbrev Completes : ℕ → ℕ → List Call → Type 0
Completes d n cs = (f : Place) (fs : List Place) (rest : List Call) → wants f ≡ n → d + length (f ∷ fs) ≡ 33 → Complete (settle fs) rest → Complete (settle (f ∷ fs)) (cs ++ (ends f ++ rest))

-- a place that waits for no more values closes
closes : (d : ℕ) → Completes d 0 []
closes d f fs rest w l k = go (stage f)
  where
    go : Stage f → Complete (settle (f ∷ fs)) (ends f ++ rest)
    go (waits p g nx fu wa en se) = absurd (omega arith)
    go (enough nx fu wa en se) = rw (se fs, en, fu) k
    go (over nx fu wa en se) = rw (se fs, en) k

-- a place that waits for a value takes one
enters : (v : Value) (f : Place) (fs : List Place) (n : ℕ) (cs rest : List Call) → wants f ≡ suc n
    → ((p : Path) (g : Place) → wants g ≡ n → (length (opens p v ++ g ∷ fs) ≤ 33) × Complete (settle (opens p v ++ g ∷ fs)) (cs ++ (ends g ++ rest)))
    → Complete (settle (f ∷ fs)) (val v ∷ (cs ++ (ends f ++ rest)))
enters v f fs n cs rest w k = go (stage f)
  where
    go : Stage f → Complete (settle (f ∷ fs)) (val v ∷ (cs ++ (ends f ++ rest)))
    go (waits p g nx fu wa en se) = rw (se fs, en, nx) ((taken (leaves p v) (opens p v ++ g ∷ fs) (λ gs. Complete gs (cs ++ (ends g ++ rest)))).1 (k p g (omega arith)))
    go (enough nx fu wa en se) = absurd (omega arith)
    go (over nx fu wa en se) = absurd (omega arith)

-- a value that opens a place, which its inner calls complete
around : (d n m : ℕ) (v : Value) (es inner later : List Call) → ((p : Path) → Opens m es (opens p v)) → Completes d m inner → Completes (suc d) n later → Completes (suc d) (suc n) (val v ∷ (inner ++ (es ++ later)))
around d n m v es inner later o is ls f fs rest w l k = enters v f fs n (inner ++ (es ++ later)) rest w (λ p g wg. go p g wg (o p))
  where
    go : (p : Path) (g : Place) → wants g ≡ n → Opens m es (opens p v) → (length (opens p v ++ g ∷ fs) ≤ 33) × Complete (settle (opens p v ++ g ∷ fs)) ((inner ++ (es ++ later)) ++ (ends g ++ rest))
    go p g wg (h, eo, wh, eh) = (rw eo (omega arith), rw (eo, regroup inner es later (ends g ++ rest), ← eh) (is h (g ∷ fs) (later ++ (ends g ++ rest)) wh (omega arith) (ls g fs rest wg l k)))

-- n values complete a place that waits for n
filled : {d n : ℕ} {cs : List Call} → Values d n cs → Completes d n cs
filled (no_more d) = closes d
filled (plain d n v later e vs) = λ f fs rest w l k. enters v f fs n later rest w (λ p g wg. let o : opens p v ≡ [] = rw e at (opened p v) in (rw o (omega arith), rw o (filled vs g fs rest wg l k)))
filled (leads d n v inner later e is ls) = around d n 1 v [] inner later (λ p. rw e at (opened p v)) (filled is) (filled ls)
filled (encloses d n m v inner later e is ls) = around d n m v (end ∷ []) inner later (λ p. rw e at (opened p v)) (filled is) (filled ls)

-- ---- what completes the places is values

-- the values that the places wait for, from the innermost place on
abbrev Fills : List Place → List Call → Type 0
Fills [] cs = cs ≡ []
Fills (f ∷ fs) cs = (inner : List Call) × (later : List Call) × (cs ≡ inner ++ (ends f ++ later)) × Values (32 - length fs) (wants f) inner × Fills fs later

-- a value comes first where the place f waits for one, and is then g
module _ (cs : List Call) (v : Value) (f g : Place) (fs : List Place) (wa : wants f ≡ suc (wants g)) (en : ends f ≡ ends g) where
  -- .. a value that opens nothing
  passes : follows v ≡ nothing → Fills (g ∷ fs) cs → Fills (f ∷ fs) (val v ∷ cs)
  passes e (inner, later, is, within, below) = (val v ∷ inner, later, rw (is, en), rw wa (plain (32 - length fs) (wants g) v inner e within), below)

  -- .. a value that opens a place
  nests : (m : ℕ) (es : List Call) (os : List Place) → Opens m es os → length (os ++ g ∷ fs) ≤ 33
      → ((d n : ℕ) (inner later : List Call) → Values d m inner → Values (suc d) n later → Values (suc d) (suc n) (val v ∷ (inner ++ (es ++ later))))
      → Fills (os ++ g ∷ fs) cs → Fills (f ∷ fs) (val v ∷ cs)
  nests m es os (h, o, w, e) l step k = go (rw o at k)
    where
      deeper : 32 - length fs ≡ suc (32 - length (g ∷ fs))
      deeper = omega (arith, rw o at l)

      go : Fills (h ∷ g ∷ fs) cs → Fills (f ∷ fs) (val v ∷ cs)
      go (inner, above, is, within, (more, later, are, after, below)) =
          (val v ∷ (inner ++ (es ++ more)), later, rw (is, are, e, en, regroup inner es more (ends g ++ later)), rw (wa, deeper) (step (32 - length (g ∷ fs)) (wants g) inner more (rw w at within) (rw deeper at after)), below)

  -- .. any value
  begins : (os : List Place) (w : Following) → follows v ≡ w → Opened w os → length (os ++ g ∷ fs) ≤ 33 → Fills (os ++ g ∷ fs) cs → Fills (f ∷ fs) (val v ∷ cs)
  begins os nothing e o l k = passes e (rw o at k)
  begins os one e o l k = nests 1 [] os o l (λ d n inner later. leads d n v inner later e) k
  begins os (enclosed m) e o l k = nests m (end ∷ []) os o l (λ d n inner later. encloses d n m v inner later e) k

-- what completes the places is what they wait for
parsed : (cs : List Call) (fs : List Place) → Complete fs cs → Fills fs cs
parsed [] fs k = rw k refl
parsed (c ∷ cs) [] k = absurd k
parsed (c ∷ cs) (f ∷ fs) k = go c (stage f) k (λ gs j. unsettled (λ hs. Fills hs cs) (λ hs h. ([], cs, refl, no_more (32 - length hs), h)) gs (parsed cs (settle gs) j))
  where
    go : (c : Call) → Stage f → Complete (f ∷ fs) (c ∷ cs) → ((gs : List Place) → Complete (settle gs) cs → Fills gs cs) → Fills (f ∷ fs) (c ∷ cs)
    go end (waits p g nx fu wa en se) k ih = absurd (rw fu at k)
    go end (enough nx fu wa en se) k ih = ([], cs, rw en, rw wa (no_more (32 - length fs)), ih fs (rw fu at k))
    go end (over nx fu wa en se) k ih = absurd (rw fu at k)
    go (val v) (waits p g nx fu wa en se) k ih =
        let r = (taken (leaves p v) (opens p v ++ g ∷ fs) (λ gs. Complete gs cs)).0 (rw nx at k) in
        begins cs v f g fs wa en (opens p v) (follows v) refl (opened p v) r.0 (ih (opens p v ++ g ∷ fs) r.1)
    go (val v) (enough nx fu wa en se) k ih = absurd (rw nx at k)
    go (val v) (over nx fu wa en se) k ih = absurd (rw nx at k)

-- ---- beginnings

-- some values that open no place
units : (d n : ℕ) → (cs : List Call) × Values d n cs
units d zero = ([], no_more d)
units d (suc n) = let r = units d n in (val unit ∷ r.0, plain d n unit r.0 refl r.1)

-- open places can be completed
completable : (fs : List Place) → length fs ≤ 33 → (more : List Call) × Complete (settle fs) more
completable [] l = ([], refl)
completable (f ∷ fs) l =
    let r = completable fs (omega arith) in
    let u = units (32 - length fs) (wants f) in
    (u.0 ++ (ends f ++ r.0), filled u.1 f fs r.0 refl (omega arith) r.1)

-- calls that are taken can be completed
extended : (cs : List Call) (fs hs : List Place) → fs ≡ settle hs → length hs ≤ 33 → Runs fs cs → (more : List Call) × Complete fs (cs ++ more)
extended [] fs hs e l k = rw e (completable hs l)
extended (c ∷ cs) [] hs e l k = absurd k
extended (end ∷ cs) (f ∷ fs) hs e l k = go (full f) k (extended cs (settle fs) fs refl short)
  where
    settled : length (settle hs) ≤ length hs
    settled = unsettled (λ gs. length (settle hs) ≤ length gs) (λ gs h. omega arith) hs (omega arith)

    short : length fs ≤ 33
    short = let h : suc (length fs) ≤ length hs = rw (← e) at settled in omega arith

    go : (b : Bool) → Onward (cond b (goes [] (settle fs)) (stays Count)) (λ gs. Runs gs cs) → (Runs (settle fs) cs → (more : List Call) × Complete (settle fs) (cs ++ more)) → (more : List Call) × Onward (cond b (goes [] (settle fs)) (stays Count)) (λ gs. Complete gs (cs ++ more))
    go true k ih = ih k
    go false k ih = absurd k
extended (val v ∷ cs) (f ∷ fs) hs e l k = go (next f) k (λ gs. extended cs (settle gs) gs refl)
  where
    go : (n : Next) → Onward (tell v fs n) (λ gs. Runs gs cs) → ((gs : List Place) → length gs ≤ 33 → Runs (settle gs) cs → (more : List Call) × Complete (settle gs) (cs ++ more)) → (more : List Call) × Onward (tell v fs n) (λ gs. Complete gs (cs ++ more))
    go nowhere k ih = absurd k
    go (there p g) k ih =
        let r = (taken (leaves p v) (opens p v ++ g ∷ fs) (λ gs. Runs gs cs)).0 k in
        let m = ih (opens p v ++ g ∷ fs) r.0 r.1 in
        (m.0, (taken (leaves p v) (opens p v ++ g ∷ fs) (λ gs. Complete gs (cs ++ m.0))).1 (r.0, m.1))

-- the beginning of what completes the places is taken
beginning : (cs more : List Call) (fs : List Place) → Complete fs (cs ++ more) → Runs fs cs
beginning [] more fs k = tt
beginning (c ∷ cs) more fs k = go (turn fs c) k (beginning cs more)
  where
    go : (t : Turn) → Onward t (λ gs. Complete gs (cs ++ more)) → ((gs : List Place) → Complete gs (cs ++ more) → Runs gs cs) → Onward t (λ gs. Runs gs cs)
    go (stays r) k ih = absurd k
    go (goes es gs) k ih = ih gs k

-- ---- documents

-- what completes the root is a document
one_value : (cs : List Call) → Complete start cs → Document cs
one_value cs k = go (parsed cs start k)
  where
    go : Fills start cs → Document cs
    go (inner, later, is, within, done) = rw (is, done, append-nil) within

-- a document completes the root
completes : (cs : List Call) → Document cs → Complete start cs
completes cs v = rw (append-nil cs) at (filled v (only root) [] [] refl refl refl)

-- the open places take exactly the beginnings of documents, and are done exactly at documents
pub grammatical : Grammatical
grammatical = record {
  done = λ cs. (one_value cs, completes cs);
  begun = λ cs. (
    (λ k. let r = extended cs start start refl (omega arith) k in (r.0, one_value (cs ++ r.0) r.1)),
    (λ r. beginning cs r.0 start (completes (cs ++ r.0) r.1)),
  );
}
