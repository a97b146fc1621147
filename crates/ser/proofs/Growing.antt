-- What the lists of records, cells and marks are with one entry more.
use Rattle.std.proofs.Common.{◌≡◌, ℕ, zero, suc, ◌+◌, ◌<◌, ◌≤◌, Bool, true, false, cond, List, [], ◌∷◌, ◌++◌, length, get_or, take, drop, sym, refl, ap, ◌∙◌, subst, append_assoc, arith, length-append, take-append-drop, length-take, take-suc}
use Rattle.std.specs.List.{AllByRecursion}
use Rattle.std.proofs.lemmas.List.{append-nil}
use Rattle.std.proofs.ByRecursion.{All-append, All-take}
use Rattle.document.specs.Calls.{Kind, SCALAR, TEXT, SEQ, MAP, ENUM, UNIT, TUPLE}
use Rattle.document.specs.Nodes.{Path, root, ◌▹◌, Step, same}
use Rattle.document.specs.Entries.{Entry, at}
use Rattle.document.specs.Tables.{cells}
use Rattle.document.specs.Records.{nodes_of, brought, fields_from, times}
use Rattle.document.proofs.Paths.{same_self, same_true, not-child}
use Rattle.document.proofs.Allotting.{once}
use Rattle.document.proofs.Growth.{unmarked-childless, one_place}
use Rattle.nodes.specs.declared.marks.Mark.{Mark}
use Rattle.nodes.specs.declared.marks.Mark.TheVariants.{Unmarked}
use Rattle.nodes.specs.Homes.{Home, ordinal, is_child, places}
use Rattle.nodes.proofs.Homes.{home-more, child-one}
use Rattle.ser.specs.Moves.{Sheets, grown}
use Rattle.ser.specs.Held.{Slot, slotted, slots_of, is_held, Holding}
use Rattle.ser.proofs.Moving.{Alone, spawns}
use Rattle.ser.proofs.Moved.{length-grown}

-- ---- records and nodes

-- no node has two records
pub alone_of : (ts : List Entry) → Alone (nodes_of ts)
alone_of ts zero j p h k = absurd (omega (arith, h.0))
alone_of ts (suc i) zero p h k = absurd (omega (arith, k.0))
alone_of ts (suc i) (suc j) p h k = ap suc (one_place p (nodes_of ts) i j (once p ts) (omega (arith, h.1)) (omega (arith, k.1)) h.2 k.2)

-- .. nor among the first of them
pub alone-front : (ns ms : List Path) → Alone (ns ++ ms) → Alone ns
alone-front ns ms alone i j p h k = alone i j p (home-more ns ms i p h) (home-more ns ms j p k)

-- none passes, so there is no place
pub places-none : {X : Type 0} (test : X → Bool) (i : ℕ) (xs : List X) → AllByRecursion (λ x. test x ≡ false) xs → places test i xs ≡ []
places-none test i [] h = refl
places-none test i (x ∷ xs) h = ap (λ b. cond b (i ∷ places test (suc i) xs) (places test (suc i) xs)) h.0 ∙ places-none test (suc i) xs h.1

-- a node without a value has no child
pub childless : (ts : List Entry) (q : Path) → at q ts ≡ [] → AllByRecursion (λ x. is_child q x ≡ false) (nodes_of ts)
childless ts q e = go (nodes_of ts) (λ s. unmarked-childless ts q s e)
  where
    go : (ns : List Path) → ((s : Step) → times (q ▹ s) ns ≡ 0) → AllByRecursion (λ x. is_child q x ≡ false) ns
    go [] h = tt
    go (root ∷ ns) h = (refl, go ns (λ s. omega (arith, h s)))
    go ((y ▹ t) ∷ ns) h = (not-its (same y q) refl, go ns (λ s. omega (arith, h s)))
      where
        not-its : (b : Bool) → same y q ≡ b → same y q ≡ false
        not-its true k = let w : times (q ▹ t) ((y ▹ t) ∷ ns) ≡ 0 = h t in let z = ap (λ (x : Path). times (x ▹ t) ((y ▹ t) ∷ ns)) (same_true y q k) in absurd (omega (arith, w, z, own))
          where
            own : 1 ≤ times (y ▹ t) ((y ▹ t) ∷ ns)
            own = rw (same_self (y ▹ t)) (omega arith)
        not-its false k = k

-- a node without a value has no cell
pub cellless : (ts : List Entry) (q : Path) → at q ts ≡ [] → AllByRecursion (λ z. is_held q z ≡ false) (slots_of ts)
cellless [] q e = tt
cellless (d ∷ ts) q e = go (same d.node q) refl (cellless ts q) e
  where
    each-slot : (n : ℕ) → same d.node q ≡ false → AllByRecursion (λ z. is_held q z ≡ false) (slotted d n)
    each-slot zero k = tt
    each-slot (suc zero) k = (k, tt)
    each-slot (suc (suc n)) k = (k, (refl, tt))

    go : (b : Bool) → same d.node q ≡ b → (at q ts ≡ [] → AllByRecursion (λ z. is_held q z ≡ false) (slots_of ts)) → cond b (d.said ∷ at q ts) (at q ts) ≡ [] → AllByRecursion (λ z. is_held q z ≡ false) (slotted d (cells d.said) ++ slots_of ts)
    go true k ih h = absurd (nothing h)
      where
        nothing : d.said ∷ at q ts ≡ [] → ⊥
        nothing z = cc
    go false k ih h = All-append (λ z. is_held q z ≡ false) (slotted d (cells d.said)) (slots_of ts) (each-slot (cells d.said) k) (ih h)

-- the cells of one entry more
pub slots-more : (ts es : List Entry) → slots_of (ts ++ es) ≡ slots_of ts ++ slots_of es
slots-more [] es = refl
slots-more (d ∷ ts) es = ap (λ l. slotted d (cells d.said) ++ l) (slots-more ts es) ∙ sym (append_assoc (slotted d (cells d.said)) (slots_of ts) (slots_of es))

pub slots-snoc : (ts : List Entry) (e : Entry) → slots_of (ts ++ e ∷ []) ≡ slots_of ts ++ slotted e (cells e.said)
slots-snoc ts e = slots-more ts (e ∷ []) ∙ ap (λ l. slots_of ts ++ l) (append-nil (slotted e (cells e.said)))

-- ---- the children that a mark brings

-- the children that a mark brings are children
fields-kin : (p : Path) (i n : ℕ) → AllByRecursion (λ x. is_child p x ≡ true) (fields_from p i n)
fields-kin p i zero = tt
fields-kin p i (suc n) = (same_self p, fields-kin p (suc i) n)

pub brought-kin : (p : Path) (K : Kind) → AllByRecursion (λ x. is_child p x ≡ true) (brought p K)
brought-kin p (SCALAR k) = tt
brought-kin p TEXT = tt
brought-kin p SEQ = (same_self p, tt)
brought-kin p MAP = (same_self p, (same_self p, tt))
brought-kin p ENUM = tt
brought-kin p UNIT = tt
brought-kin p (TUPLE n) = fields-kin p 0 n

-- ---- a new node

-- a child of p that no record, mark or cell knows of yet
pub record New (p : Path) (ns : List Path) (mark : Path → Mark) (sum : Path → ℕ) (sl : List Slot) (q : Path) : Type 0 where
  pub child : is_child p q ≡ true
  pub unmarked : mark q ≡ Unmarked
  pub empty : sum q ≡ 0
  pub cell-less : places (is_held q) 1 sl ≡ []
  pub child-less : AllByRecursion (λ x. is_child q x ≡ false) ns

-- a child's children are not its own brothers
pub brothers : (p q x : Path) → is_child p q ≡ true → is_child p x ≡ true → is_child q x ≡ false
brothers p q x a b = go (is_child q x) refl
  where
    own : (y : Path) → is_child y y ≡ true → ⊥
    own root e = cc
    own (y ▹ s) e = let z : y ≡ y ▹ s = same_true y (y ▹ s) e in let n = not-child y s in cc

    go : (b : Bool) → is_child q x ≡ b → b ≡ false
    go true e = absurd (own p (ap (is_child p) (child-one p q x b e) ∙ a))
    go false e = refl

-- new children get their records, one after another
pub grows : (T : Sheets) (ns : List Path) (mark : Path → Mark) (sum : Path → ℕ) (sl : List Slot) (fs : List Path) (letters : ℕ) (r : ℕ) (p : Path) (qs : List Path)
    → Alone (ns ++ qs) → Holding T ns mark sum sl fs letters → Home ns r p
    → ((j : ℕ) → j < length qs → New p ns mark sum sl (get_or qs j root) × (ordinal (get_or qs j root) ≡ j)) → AllByRecursion (λ x. is_child p x ≡ true) qs
    → r < length T.nodes → length fs < T.used
    → (n : ℕ) → n ≤ length qs → T.used + n ≤ length T.nodes → Holding (grown r n T) (ns ++ take n qs) mark sum sl fs letters
grows T ns mark sum sl fs letters r p qs alone H home new kin l few zero b c = subst (λ ms. Holding T ms mark sum sl fs letters) (sym (append-nil ns)) H
grows T ns mark sum sl fs letters r p qs alone H home new kin l few (suc n) b c =
    let h = grows T ns mark sum sl fs letters r p qs alone H home new kin l few n (omega arith) (omega arith) in
    let q = get_or qs n root in
    let w = new n (omega arith) in
    let size = length-grown r n T in
    let used = h.used in
    let len = length-append ns (take n qs) in
    let long = length-take n qs in
    let before : Alone (ns ++ take n qs) = alone-front (ns ++ take n qs) (drop n qs) (subst Alone (sym (append_assoc ns (take n qs) (drop n qs) ∙ ap (λ l. ns ++ l) (take-append-drop n qs))) alone) in
    let none : places (is_child q) 1 ((ns ++ take n qs) ++ q ∷ []) ≡ [] = places-none (is_child q) 1 ((ns ++ take n qs) ++ q ∷ [])
    (All-append (λ x. is_child q x ≡ false) (ns ++ take n qs) (q ∷ []) (All-append (λ x. is_child q x ≡ false) ns (take n qs) w.0.child-less (off q w.0.child (take n qs) (All-take (λ x. is_child p x ≡ true) n qs kin))) (brothers p q q w.0.child w.0.child, tt)) in
    let more = spawns (grown r n T) (ns ++ take n qs) mark sum sl fs letters before h r p (home-more ns (take n qs) r p home) q n w.0.child w.1 w.0.unmarked w.0.empty w.0.cell-less none (omega (arith, size)) (omega (arith, size, used, len, long, H.used)) (omega (arith, used, len, long, H.used)) in
    subst (λ ms. Holding (grown r (suc n) T) ms mark sum sl fs letters) (append_assoc ns (take n qs) (q ∷ []) ∙ ap (λ l. ns ++ l) (sym (take-suc qs n root (omega arith)))) more
  where
    off : (q : Path) → is_child p q ≡ true → (xs : List Path) → AllByRecursion (λ x. is_child p x ≡ true) xs → AllByRecursion (λ x. is_child q x ≡ false) xs
    off q is [] a = tt
    off q is (x ∷ xs) a = (brothers p q x is a.0, off q is xs a.1)
