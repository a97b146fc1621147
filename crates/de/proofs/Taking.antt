-- Taking an answer: the tables stand for the store after it.
use Rattle.std.proofs.Common.{◌≡◌, ℕ, zero, suc, ◌+◌, ◌-◌, ◌<◌, ◌≤◌, Bool, true, false, ltb, ◌⊎◌, List, [], ◌∷◌, length, get_or, set, min, sym, refl, ap, ◌∙◌, subst, subst₂, inl, inr, ⊎_elim, arith, length-set, get_or-set_same, get_or-set_other}
use Rattle.std.proofs.lemmas.Bool.{cases_Bool, cond-true, cond-false, false≢true}
use Rattle.document.specs.Calls.{total, Kind, Cell}
use Rattle.document.specs.Nodes.{Path, root, ◌▹◌, Step, alt, same}
use Rattle.document.specs.Reader.{ready, Store, kin, put, letter_count, taken}
use Rattle.document.proofs.Taking.{total_mono}
use Rattle.document.proofs.Paths.{same_self, same_true}
use Rattle.nodes.specs.Marks.{mark_of}
use Rattle.nodes.specs.Homes.{Home}
use Rattle.nodes.proofs.Homes.{home-one}
use Rattle.de.specs.declared.records.Node.{Node as Row}
use Rattle.de.specs.Moves.{Sheets, node, root_node, replaced}
use Rattle.de.specs.Reads.{Fathers, is_ready, columns_read, Kept, Reads}
use Rattle.de.specs.Viewed.{remarked}
use Rattle.de.specs.Taken.{stepped}
use Rattle.de.proofs.Growing.{alike-same, linked-replaced}
use Rattle.de.proofs.Keeping.{GoesOn, enum_within, children_on, values_on, kept_on}
use Rattle.de.proofs.Answering.{letters_at, values_step}
use Rattle.de.proofs.Kin.{kin_values, kin_children, kin_child, kin_columns}

-- ---- sums over the nodes

-- where one term among them grows by n, the sum does
pub total_gain : (f g : Path → ℕ) (n : ℕ) → ((q : Path) → f q ≤ g q) → (p : Path) → f p + n ≤ g p → (qs : List Path) (j : ℕ) → j < length qs → get_or qs j root ≡ p → total f qs + n ≤ total g qs
total_gain f g n h p l [] j b e = absurd (omega arith)
total_gain f g n h p l (q ∷ qs) zero b e = let k : f q + n ≤ g q = subst (λ x. f x + n ≤ g x) (sym e) l in omega (arith, k, total_mono f g h qs)
total_gain f g n h p l (q ∷ qs) (suc j) b e = omega (arith, h q, total_gain f g n h p l qs j (omega arith) e)

-- ---- maps with another value

-- a map with another value at p has that value there
pub put_here : {X : Type 0} (p : Path) (x : X) (xs : Path → X) → put p x xs p ≡ x
put_here p x xs = cond-true (same p p) x (xs p) (same_self p)

-- and is as it was elsewhere
pub put_other : {X : Type 0} (p q : Path) (x : X) (xs : Path → X) → (q ≡ p → ⊥) → put p x xs q ≡ xs q
put_other p q x xs ne = cond-false (same p q) x (xs q) (apart (same p q) refl)
  where
    apart : (b : Bool) → same p q ≡ b → same p q ≡ false
    apart true e = absurd (ne (sym (same_true p q e)))
    apart false e = e

-- a node is p, or it is not
pub put_cases : (p q : Path) → (q ≡ p) ⊎ (q ≡ p → ⊥)
put_cases p q = ⊎_elim (λ e. inl (sym (same_true p q e))) (λ e. inr (λ z. false≢true (sym e ∙ ap (same p) z ∙ same_self p))) (cases_Bool (same p q))

-- ---- a node that was read before

module _ (T : Sheets) (ps : List Path) (input : List ℕ) (S : Store) (h : Reads T ps input S) (r : ℕ) (p : Path) (home : Home ps r p) (rooted : S.rooted ≡ true) (H K : Kind) (c : Cell) (cs : List Cell) (was : S.nodes p ≡ ready H (c ∷ cs)) (is_kin : kin H K ≡ true) (y : Row) (letters : ℕ) where
  -- the record as it is then
  abbrev T' : Sheets
  T' = replaced r y T

  -- .. and the store
  abbrev S' : Store
  S' = taken p K c cs S

  -- the node's record is in the table
  within : r < length T.nodes
  within = omega (arith, home.1, h.linked.used, h.room rooted)

  -- it is another record then
  here : node T' r ≡ y
  here = get_or-set_same T.nodes r y root_node within

  -- every other record is as it was
  elsewhere : (k : ℕ) (q : Path) → Home ps k q → (q ≡ p → ⊥) → node T' k ≡ node T k
  elsewhere k q hk ne = get_or-set_other T.nodes r k y root_node (λ e. ne (home-one ps r q p (subst (λ j. Home ps j q) e hk) home))

  -- no node has fewer columns than it had
  weighs : (q : Path) → columns_read (S.nodes q) ≤ columns_read (S'.nodes q)
  weighs q = ⊎_elim
      (λ e. let a = ap columns_read (ap S.nodes e ∙ was) in let b = ap columns_read (ap S'.nodes e ∙ put_here p (ready K cs) S.nodes) in omega (arith, kin_columns H K is_kin))
      (λ ne. let b = ap columns_read (put_other p q (ready K cs) S.nodes ne) in omega arith)
      (put_cases p q)

  -- a branch without a record is as it was
  unmade : (q : Path) (i : ℕ) → S.made (q ▹ alt i) ≡ false → q ▹ alt i ≡ p → ⊥
  unmade q i m e = false≢true (sym m ∙ h.making r q i (subst (Home ps r) (sym e) home))

  -- nothing changes elsewhere
  goes_on : (q : Path) → GoesOn T ps S T' ps S' q
  goes_on q =
      record {
        taken = omega arith;
        place = omega arith;
        slots = refl;
        homes = λ k x hk. hk;
        branches = λ i m. (m, put_other p (q ▹ alt i) (ready K cs) S.nodes (unmade q i m));
      }

  -- the other nodes
  kept_other : (k : ℕ) (q : Path) → Home ps k q → (q ≡ p → ⊥) → Kept T' ps S' q (node T' k) (S'.nodes q)
  kept_other k q hk ne = subst (Kept T' ps S' q (node T' k)) (sym (put_other p q (ready K cs) S.nodes ne))
      (kept_on T ps S T' ps S' q (goes_on q) (node T k) (node T' k) (alike-same (node T' k) (node T k) (elsewhere k q hk ne)) (put_other p q (S.texts p + letter_count c) S.texts ne) (S.nodes q) (h.kept k q hk))

  -- the node itself, of which the record y is what it was with one value more answered
  module _ (is_y : y ≡ stepped letters (remarked (mark_of K) (node T r))) (text : letters ≡ letters_at K c) where
    -- the tables stand for the store after it
    pub takes_before : Reads T' ps input S'
    takes_before = record {
      linked = linked-replaced T ps r y (ap (λ x. x.index) is_y) (ap (λ x. x.next) is_y) (ap (λ x. x.children) is_y) h.linked;
      rooted = h.rooted ∙ ap (ltb 1) (sym size);
      records = h.records ∙ ap (λ n. min n 65536 - T.used) (sym size);
      room = λ e. omega (arith, h.room e, size);
      slots = h.slots;
      taken = h.taken;
      rest = h.rest;
      place = h.place;
      within = h.within;
      columns = h.columns;
      few = omega (arith, h.few, total_mono (λ q. columns_read (S.nodes q)) (λ q. columns_read (S'.nodes q)) weighs ps);
      made = h.made;
      making = h.making;
      fathers = fathers;
      homes = homes;
      kept = λ k q hk. ⊎_elim (λ e. itself k q hk e) (kept_other k q hk) (put_cases p q);
    }
      where
        size : length (set T.nodes r y) ≡ length T.nodes
        size = length-set T.nodes r y

        fathers : (k : ℕ) (q : Path) (s : Step) → Home ps k (q ▹ s) → Fathers s (S'.nodes q)
        fathers k q s hk = ⊎_elim
            (λ e. subst (Fathers s) (sym (ap S'.nodes e ∙ put_here p (ready K cs) S.nodes)) (kin_child s H K is_kin (subst (Fathers s) (ap S.nodes e ∙ was) (h.fathers k q s hk))))
            (λ ne. subst (Fathers s) (sym (put_other p q (ready K cs) S.nodes ne)) (h.fathers k q s hk))
            (put_cases p q)

        homes : (q : Path) → is_ready (S'.nodes q) ≡ true → (k : ℕ) × Home ps k q
        homes q e = ⊎_elim (λ is. (r, subst (Home ps r) (sym is) home)) (λ ne. h.homes q (ap is_ready (sym (put_other p q (ready K cs) S.nodes ne)) ∙ e)) (put_cases p q)

        x : Row
        x = node T r

        old : Kept T ps S p x (ready H (c ∷ cs))
        old = subst (Kept T ps S p x) was (h.kept r p home)

        own : Kept T' ps S' p y (ready K cs)
        own =
            let start = S.texts p + letter_count c in
            let z = stepped letters x in
            let vals = kin_values T (S.texts p) x (c ∷ cs) H K is_kin old.2 in
            let v = values_step T (S.texts p) letters x K c cs text vals in
            let n : z.done + length cs ≡ z.count = omega (arith, old.1) in
            let is = alike-same y (remarked (mark_of K) z) is_y in (
              is.mark,
              omega (arith, n, is.done, is.count),
              values_on T ps S T' ps S' p (goes_on p) z y is.first is.done is.count is.text start (S'.texts p) (put_here p start S.texts) K cs n v,
              children_on T ps S T' ps S' p (goes_on p) x y is.first is.count is.children K (λ e. enum_within T (S.texts p) x (c ∷ cs) K e vals) (kin_children T ps S p x H K is_kin old.3),
            )

        itself : (k : ℕ) (q : Path) → Home ps k q → q ≡ p → Kept T' ps S' q (node T' k) (S'.nodes q)
        itself k q hk e =
            let one : k ≡ r = h.linked.once k r p (subst (Home ps k) e hk) home in
            subst (λ z. Kept T' ps S' z (node T' k) (S'.nodes z)) (sym e) (subst₂ (Kept T' ps S' p) (sym (ap (node T') one ∙ here)) (sym (put_here p (ready K cs) S.nodes)) own)
