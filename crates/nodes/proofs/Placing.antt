-- The places of the code and those of the definitions go together.
use Rattle.std.proofs.Common.{◌≡◌, ℕ, zero, suc, ◌+◌, ◌-◌, false, cond, eqb, List, [], ◌∷◌, ◌++◌, length, Option, sym, refl, ap, ◌∙◌, subst, subst₂, inr, add-zero, arith}
use Rattle.std.proofs.lemmas.Bool.{ne_eqb}
use Rattle.std.specs.declared.option.Option.TheVariants as options
use Rattle.document.specs.Nodes.{Path, ◌▹◌, elem, key, value, field}
use Rattle.document.specs.Places.{Place, items, keys, vals, fields, lone, only, closing, Next, nowhere, there, next, full, settle}
use Rattle.nodes.specs.declared.places.State.{State}
use Rattle.nodes.specs.declared.places.State.TheVariants as states
use Rattle.nodes.specs.declared.places.Place.{Place as Spot}
use Rattle.nodes.specs.Stack.{levels, settled, opening}
use Rattle.nodes.specs.Ahead.{Ahead, nowhere as no_record, there as at_record, ahead, is_full}
use Rattle.nodes.specs.Homes.{Home}
use Rattle.nodes.specs.Placed.{Placed, Stacked, Open, Opens}
use Rattle.nodes.proofs.Homes.{home-more}

-- ---- more nodes

-- a place stays where it is when there are more records ..
pub placed-mono : (ns ms : List Path) (s : State) (f : Place) → Placed ns s f → Placed (ns ++ ms) s f
placed-mono ns ms s (items p n) (r, e, h) = (r, e, home-more ns ms r (p ▹ elem) h)
placed-mono ns ms s (keys p n) (r, e, h, k) = (r, e, home-more ns ms r (p ▹ key) h, home-more ns ms (r + 1) (p ▹ value) k)
placed-mono ns ms s (vals p n) (r, e, h, k) = (r, e, home-more ns ms r (p ▹ key) h, home-more ns ms (r + 1) (p ▹ value) k)
placed-mono ns ms s (fields p i n) (r, e, h) = (r, e, λ j l. home-more ns ms (r + j) (p ▹ field (i + j)) (h j l))
placed-mono ns ms s (lone p n) (r, e, h) = (r, e, home-more ns ms r p h)
placed-mono ns ms s (only p) (r, e, h) = (r, e, home-more ns ms r p h)
placed-mono ns ms s closing e = e

-- .. and for all of them
pub stacked-mono : (ns ms : List Path) (ss : List State) (fs : List Place) → Stacked ns ss fs → Stacked (ns ++ ms) ss fs
stacked-mono ns ms [] fs h = h
stacked-mono ns ms (s ∷ ss) [] h = h
stacked-mono ns ms (s ∷ ss) (f ∷ fs) h = (placed-mono ns ms s f h.0, stacked-mono ns ms ss fs h.1)

-- ---- how many

-- the open places are as many as the stack is deep
pub length-levels : (ps : List Spot) (d : ℕ) → length (levels ps d) ≡ d
length-levels ps zero = refl
length-levels ps (suc d) = ap suc (length-levels ps d)

-- the definitions have one place more: the root's own
pub length-stacked : (ns : List Path) (ss : List State) (fs : List Place) → Stacked ns ss fs → length fs ≡ suc (length ss)
length-stacked ns [] fs h = ap length h
length-stacked ns (s ∷ ss) [] h = absurd h
length-stacked ns (s ∷ ss) (f ∷ fs) h = ap suc (length-stacked ns ss fs h.1)

-- ---- places close

-- a place that does not close stays where it is, with its state
stays_open : (ns : List Path) (s t : State) (ss : List State) (fs : List Place) → s ≡ t → settled (t ∷ ss) ≡ t ∷ ss → Stacked ns (s ∷ ss) fs → Open ns (settled (s ∷ ss)) fs
stays_open ns s t ss fs e k h = subst (λ x. Open ns x fs) (sym (ap (λ x. settled (x ∷ ss)) e ∙ k)) (inr (subst (λ x. Stacked ns (x ∷ ss) fs) e h))

-- the places close together; with the last one the document is complete
pub settles : (ns : List Path) (ss : List State) (fs : List Place) → Stacked ns ss fs → Open ns (settled ss) (settle fs)
settles ns [] fs h = ap settle h
settles ns (s ∷ ss) [] h = absurd h
settles ns (s ∷ ss) (items p n ∷ fs) h = stays_open ns s (states.Items h.0.0 n) ss (items p n ∷ fs) h.0.1 refl h
settles ns (s ∷ ss) (keys p n ∷ fs) h = stays_open ns s (states.Keys h.0.0 n) ss (keys p n ∷ fs) h.0.1 refl h
settles ns (s ∷ ss) (vals p n ∷ fs) h = stays_open ns s (states.Vals h.0.0 n) ss (vals p n ∷ fs) h.0.1 refl h
settles ns (s ∷ ss) (fields p i n ∷ fs) h = stays_open ns s (states.Fields h.0.0 n) ss (fields p i n ∷ fs) h.0.1 refl h
settles ns (s ∷ ss) (lone p n ∷ fs) h = stays_open ns s (states.Lone h.0.0 n) ss (lone p n ∷ fs) h.0.1 refl h
settles ns (s ∷ ss) (only p ∷ fs) h = stays_open ns s (states.One h.0.0) ss (only p ∷ fs) h.0.1 refl h
settles ns (s ∷ ss) (closing ∷ fs) h = subst (λ x. Open ns (settled (x ∷ ss)) (settle fs)) (sym h.0) (settles ns ss fs h.1)

-- a place that is opened goes on top
pub stacks : (ns : List Path) (opened : Option State) (es : List Place) (ss : List State) (fs : List Place) → Opens ns opened es → Stacked ns ss fs → Stacked ns (opening opened ss) (es ++ fs)
stacks ns options.None [] ss fs o h = h
stacks ns options.None (f ∷ es) ss fs o h = absurd o
stacks ns (options.Some s) [] ss fs o h = absurd o
stacks ns (options.Some s) (f ∷ []) ss fs o h = (o, h)
stacks ns (options.Some s) (f ∷ (g ∷ es)) ss fs o h = absurd o

-- ---- what a place waits for

-- what a state waits for is what its place does: nothing; or a value at a record of its node, and its state is then that of the next place
abbrev pub Leads : List Path → Ahead → Next → Type 0
Leads ns no_record nowhere = Unit {0}
Leads ns no_record (there p g) = ⊥
Leads ns (at_record r t) nowhere = ⊥
Leads ns (at_record r t) (there p g) = Home ns r p × Placed ns t g

-- a place that waits for some
leads_on : (ns : List Path) (m r : ℕ) (next : ℕ → State) (n : Next) → Leads ns (at_record r (next m)) n → Leads ns (cond (eqb (suc m) 0) no_record (at_record r (next (suc m - 1)))) n
leads_on ns m r next n h =
    let some : eqb (suc m) 0 ≡ false = ne_eqb (suc m) 0 (λ z. omega arith) in
    let fewer : m ≡ suc m - 1 = omega arith in
    subst (λ b. Leads ns (cond b no_record (at_record r (next (suc m - 1)))) n) (sym some) (subst (λ k. Leads ns (at_record r (next k)) n) fewer h)

-- each place's state waits for what the place does
pub leads : (ns : List Path) (s : State) (f : Place) → Placed ns s f → Leads ns (ahead s) (next f)
leads ns s (items p zero) (r, e, h) = rw e tt
leads ns s (items p (suc m)) (r, e, h) = rw e (leads_on ns m r (states.Items r) (there (p ▹ elem) (items p m)) (h, (r, refl, h)))
leads ns s (keys p zero) (r, e, h, k) = rw e tt
leads ns s (keys p (suc m)) (r, e, h, k) = rw e (leads_on ns m r (states.Vals r) (there (p ▹ key) (vals p m)) (h, (r, refl, h, k)))
leads ns s (vals p n) (r, e, h, k) = rw e (k, (r, refl, h, k))
leads ns s (fields p i zero) (r, e, h) = rw e tt
leads ns s (fields p i (suc m)) (r, e, h) =
    let here = subst₂ (λ x y. Home ns x (p ▹ field y)) (add-zero r) (add-zero i) (h 0 (omega arith)) in
    rw e (leads_on ns m r (states.Fields (r + 1)) (there (p ▹ field i) (fields p (suc i) m)) (here, (r + 1, refl, λ j l. further j (h (1 + j) (omega arith)))))
  where
    further : (j : ℕ) → Home ns (r + (1 + j)) (p ▹ field (i + (1 + j))) → Home ns (r + 1 + j) (p ▹ field (suc i + j))
    further j h =
        let a : r + (1 + j) ≡ r + 1 + j = omega arith in
        let b : i + (1 + j) ≡ suc i + j = omega arith in
        subst₂ (λ x y. Home ns x (p ▹ field y)) a b h
leads ns s (lone p zero) (r, e, h) = rw e tt
leads ns s (lone p (suc m)) (r, e, h) = rw e (leads_on ns m r (states.Lone r) (there p (lone p m)) (h, (r, refl, h)))
leads ns s (only p) (r, e, h) = rw e (h, refl)
leads ns s closing e = rw e tt

-- a state is full when its place is
pub full_is : (ns : List Path) (s : State) (f : Place) → Placed ns s f → is_full s ≡ full f
full_is ns s (items p zero) (r, e, h) = ap is_full e
full_is ns s (items p (suc m)) (r, e, h) = ap is_full e ∙ ne_eqb (suc m) 0 (λ z. omega arith)
full_is ns s (keys p zero) (r, e, h, k) = ap is_full e
full_is ns s (keys p (suc m)) (r, e, h, k) = ap is_full e ∙ ne_eqb (suc m) 0 (λ z. omega arith)
full_is ns s (vals p n) (r, e, h, k) = ap is_full e
full_is ns s (fields p i zero) (r, e, h) = ap is_full e
full_is ns s (fields p i (suc m)) (r, e, h) = ap is_full e ∙ ne_eqb (suc m) 0 (λ z. omega arith)
full_is ns s (lone p zero) (r, e, h) = ap is_full e
full_is ns s (lone p (suc m)) (r, e, h) = ap is_full e ∙ ne_eqb (suc m) 0 (λ z. omega arith)
full_is ns s (only p) (r, e, h) = ap is_full e
full_is ns s closing e = ap is_full e
