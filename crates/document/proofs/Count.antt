-- What open places still owe each node, and the balance that every call keeps.
use Rattle.std.proofs.Common.{◌≡◌, ℕ, zero, suc, ◌+◌, Bool, true, false, cond, ◌&&◌, ltb, leb, List, [], ◌∷◌, ◌++◌, length, refl, ap, ◌∙◌, arith, length-append}
use Rattle.std.proofs.lemmas.Bool.Decides.{nat_tests}
use Rattle.document.specs.Calls.{total, Value, scalar, text, unit, none, some, variant, seq, map, tuple, Call, val, end}
use Rattle.document.specs.Entries.{Entry, at, leaves}
use Rattle.document.specs.Nodes.{Step, Path, elem, key, value, field, alt, root, ◌▹◌, alike, same, demands, field_of}
use Rattle.document.specs.Places.{Place, items, keys, vals, fields, lone, only, closing, Next, nowhere, there, next, full, opens, settle, Turn, stays, goes, too_many, tell, turn, start, Onward, Complete, Runs}
use Rattle.document.specs.Trace.{gathered, trace, went, places_after}
use Rattle.document.specs.declared.refusals.Refusal.TheVariants.{Count, Depth}
use Rattle.document.proofs.Paths.{total-append, at-append}

-- n values at p, seen from q
abbrev pub here : Path → ℕ → Path → ℕ
here p n q = cond (same p q) n 0

abbrev pub rest : Path → ℕ → ℕ → Path → ℕ
rest p i zero q = 0
rest p i (suc n) q = here (p ▹ field i) 1 q + rest p (suc i) n q

abbrev pub owed : Path → Place → ℕ
owed q (items p n) = here (p ▹ elem) n q
owed q (keys p n) = here (p ▹ key) n q + here (p ▹ value) n q
owed q (vals p n) = here (p ▹ key) n q + here (p ▹ value) (suc n) q
owed q (fields p i n) = rest p i n q
owed q (lone p n) = here p n q
owed q (only p) = here p 1 q
owed q closing = 0

abbrev pub owes : List Place → Path → ℕ
owes fs q = total (owed q) fs

abbrev pub due : List Entry → Path → ℕ
due es root = 0
due es (r ▹ s) = total (demands s) (at r es)

abbrev pub Owing : Path → Place → Next → Type 0
Owing q f nowhere = Unit {0}
Owing q f (there p g) = owed q f ≡ here p 1 q + owed q g

more : (b : Bool) (n : ℕ) → cond b (suc n) 0 ≡ cond b 1 0 + cond b n 0
more true n = omega arith
more false n = omega arith

pub next-owed : (q : Path) (f : Place) → Owing q f (next f)
next-owed q (items p zero) = tt
next-owed q (items p (suc n)) = more (same (p ▹ elem) q) n
next-owed q (keys p zero) = tt
next-owed q (keys p (suc n)) = omega (arith, more (same (p ▹ key) q) n, more (same (p ▹ value) q) n)
next-owed q (vals p n) = omega (arith, more (same (p ▹ value) q) n)
next-owed q (fields p i zero) = tt
next-owed q (fields p i (suc n)) = refl
next-owed q (lone p zero) = tt
next-owed q (lone p (suc n)) = more (same p q) n
next-owed q (only p) = omega arith
next-owed q closing = tt

pub settle-owes : (fs : List Place) (q : Path) → owes (settle fs) q ≡ owes fs q
settle-owes [] q = refl
settle-owes (items p n ∷ fs) q = refl
settle-owes (keys p n ∷ fs) q = refl
settle-owes (vals p n ∷ fs) q = refl
settle-owes (fields p i n ∷ fs) q = refl
settle-owes (lone p n ∷ fs) q = refl
settle-owes (only p ∷ fs) q = refl
settle-owes (closing ∷ fs) q = omega (arith, settle-owes fs q)

rest-root : (p : Path) (i n : ℕ) → rest p i n root ≡ 0
rest-root p i zero = refl
rest-root p i (suc n) = omega (arith, rest-root p (suc i) n)

rest-field : (p r : Path) (i n j : ℕ) → rest p i n (r ▹ field j) ≡ cond (same p r) (cond (leb i j && ltb j (i + n)) 1 0) 0
rest-field p r i zero j = grind (arith, nat_tests)
rest-field p r i (suc n) j = let h = rest-field p r (suc i) n j in grind (arith, nat_tests)

-- the fields of a tuple owe nothing at a step that is no field
rest-off : (p r : Path) (s : Step) → ((j : ℕ) → alike (field j) s ≡ false) → (i n : ℕ) → rest p i n (r ▹ s) ≡ 0
rest-off p r s off i zero = refl
rest-off p r s off i (suc n) = let h = rest-off p r s off (suc i) n in rw (off i) (grind arith)

-- what the fields of a tuple are owed at first
pub rest_all : (p r : Path) (n : ℕ) (s : Step) → rest p 0 n (r ▹ s) ≡ cond (same p r) (field_of n s) 0
rest_all p r n elem = let h = rest-off p r elem (λ j. refl) 0 n in grind arith
rest_all p r n key = let h = rest-off p r key (λ j. refl) 0 n in grind arith
rest_all p r n value = let h = rest-off p r value (λ j. refl) 0 n in grind arith
rest_all p r n (field j) = let h = rest-field p r 0 n j in grind (arith, nat_tests)
rest_all p r n (alt i) = let h = rest-off p r (alt i) (λ j. refl) 0 n in grind arith

-- one entry, at its own node
one : (b : Bool) (v : Value) → length (cond b (v ∷ []) []) ≡ cond b 1 0
one true v = refl
one false v = refl

told-tuple : (p r : Path) (n : ℕ) (s : Step) → cond (same p (r ▹ s)) 1 0 + total (demands s) (cond (same p r) (tuple n ∷ []) []) ≡ length (cond (same p (r ▹ s)) (tuple n ∷ []) []) + (rest p 0 n (r ▹ s) + 0)
told-tuple p r n s = let h = rest_all p r n s in let k = one (same p (r ▹ s)) (tuple n) in grind arith

told : (p : Path) (v : Value) (q : Path) → here p 1 q + due (leaves p v) q ≡ length (at q (leaves p v)) + owes (opens p v) q
told p (scalar k b) root = grind arith
told p (scalar k b) (r ▹ s) = grind arith
told p (text bs) root = grind arith
told p (text bs) (r ▹ s) = grind arith
told p unit root = grind arith
told p unit (r ▹ s) = grind arith
told p none root = grind arith
told p none (r ▹ s) = grind arith
told p some root = grind arith
told p some (r ▹ s) = grind arith
told p (variant i) root = grind arith
told p (variant i) (r ▹ s) = grind arith
told p (seq n) root = grind arith
told p (seq n) (r ▹ s) = grind arith
told p (map n) root = grind arith
told p (map n) (r ▹ elem) = grind arith
told p (map n) (r ▹ key) = grind arith
told p (map n) (r ▹ value) = grind arith
told p (map n) (r ▹ field i) = grind arith
told p (map n) (r ▹ alt i) = grind arith
told p (tuple zero) root = grind arith
told p (tuple zero) (r ▹ s) = told-tuple p r 0 s
told p (tuple (suc zero)) root = grind arith
told p (tuple (suc zero)) (r ▹ s) = grind arith
told p (tuple (suc (suc n))) root = grind (arith, rest-root)
told p (tuple (suc (suc n))) (r ▹ s) = told-tuple p r (suc (suc n)) s

pub due-none : (q : Path) → due [] q ≡ 0
due-none root = refl
due-none (r ▹ s) = refl

pub due-append : (ds es : List Entry) (q : Path) → due (ds ++ es) q ≡ due ds q + due es q
due-append ds es root = omega arith
due-append ds es (r ▹ s) = ap (total (demands s)) (at-append r ds es) ∙ total-append (demands s) (at r ds) (at r es)

abbrev Spent : Path → Place → Bool → Type 0
Spent q f true = owed q f ≡ 0
Spent q f false = Unit {0}

full-spent : (q : Path) (f : Place) → Spent q f (full f)
full-spent q (items p zero) = grind arith
full-spent q (items p (suc n)) = tt
full-spent q (keys p zero) = grind arith
full-spent q (keys p (suc n)) = tt
full-spent q (vals p n) = tt
full-spent q (fields p i zero) = refl
full-spent q (fields p i (suc n)) = tt
full-spent q (lone p zero) = grind arith
full-spent q (lone p (suc n)) = tt
full-spent q (only p) = tt
full-spent q closing = tt

abbrev pub Balanced : Path → List Place → Turn → Type 0
Balanced q fs (stays n) = Unit {0}
Balanced q fs (goes es gs) = owes fs q + due es q ≡ length (at q es) + owes gs q

-- the balance that each call keeps
pub turn-balanced : (q : Path) (fs : List Place) (c : Call) → Balanced q fs (turn fs c)
turn-balanced q [] c = tt
turn-balanced q (f ∷ fs) (val v) = go (next f) (next-owed q f)
  where
    go : (n : Next) → Owing q f n → Balanced q (f ∷ fs) (tell v fs n)
    go nowhere h = tt
    go (there p g) h = deep (too_many (length (opens p v ++ g ∷ fs)))
      where
        deep : (b : Bool) → Balanced q (f ∷ fs) (cond b (stays Depth) (goes (leaves p v) (settle (opens p v ++ g ∷ fs))))
        deep true = tt
        deep false = omega (arith, told p v q, settle-owes (opens p v ++ g ∷ fs) q, total-append (owed q) (opens p v) (g ∷ fs))
turn-balanced q (f ∷ fs) end = go (full f) (full-spent q f)
  where
    go : (b : Bool) → Spent q f b → Balanced q (f ∷ fs) (cond b (goes [] (settle fs)) (stays Count))
    go true h = omega (arith, settle-owes fs q, due-none q)
    go false h = tt

-- what was owed at first and what was demanded on the way has come, or is owed still
pub balanced : (q : Path) (cs : List Call) (fs : List Place) → Runs fs cs → owes fs q + due (trace fs cs) q ≡ length (at q (trace fs cs)) + owes (places_after fs cs) q
balanced q [] fs h = omega (arith, due-none q)
balanced q (c ∷ cs) fs h = go (turn fs c) (turn-balanced q fs c) h (balanced q cs)
  where
    go : (t : Turn) → Balanced q fs t → Onward t (λ gs. Runs gs cs)
        → ((gs : List Place) → Runs gs cs → owes gs q + due (trace gs cs) q ≡ length (at q (trace gs cs)) + owes (places_after gs cs) q)
        → owes fs q + due (gathered t (λ gs. trace gs cs)) q ≡ length (at q (gathered t (λ gs. trace gs cs))) + owes (places_after (went t) cs) q
    go (stays n) b k ih = absurd k
    go (goes es gs) b k ih = omega (arith, ih gs k, due-append es (trace gs cs) q, length-append (at q es) (at q (trace gs cs)), ap length (at-append q es (trace gs cs)))

complete-runs : (fs : List Place) (cs : List Call) → Complete fs cs → Runs fs cs × (places_after fs cs ≡ [])
complete-runs fs [] h = (tt, h)
complete-runs fs (c ∷ cs) h = go (turn fs c) h (λ gs. complete-runs gs cs)
  where
    go : (t : Turn) → Onward t (λ gs. Complete gs cs) → ((gs : List Place) → Complete gs cs → Runs gs cs × (places_after gs cs ≡ [])) → Onward t (λ gs. Runs gs cs) × (places_after (went t) cs ≡ [])
    go (stays n) k ih = absurd k
    go (goes es gs) k ih = ih gs k

-- of a complete list nothing is owed
settled : (q : Path) (cs : List Call) → Complete start cs → owes start q + due (trace start cs) q ≡ length (at q (trace start cs))
settled q cs h = let r = complete-runs start cs h in omega (arith, balanced q cs start r.0, ap (λ (gs : List Place). owes gs q) r.1)

-- each node has as many values as its parent's values demand of it
pub counted : (cs : List Call) → Complete start cs → (q : Path) (s : Step) → length (at (q ▹ s) (trace start cs)) ≡ total (demands s) (at q (trace start cs))
counted cs h q s = omega (arith, settled (q ▹ s) cs h)

pub counted-root : (cs : List Call) → Complete start cs → length (at root (trace start cs)) ≡ 1
counted-root cs h = omega (arith, settled root cs h)
