-- Taking the first answer of a node, whose columns were read just now: the tables stand for the store after it.
use Rattle.std.proofs.Common.{◌≡◌, ℕ, zero, suc, ◌+◌, ◌-◌, ◌<◌, ◌≤◌, true, ltb, ◌⊎◌, List, [], ◌∷◌, ◌++◌, map as each, length, get_or, min, take, drop, sym, refl, ap, ◌∙◌, subst, subst₂, ap₂, inl, inr, ⊎_elim, add-zero, arith, length-set, length-drop, get_or-set_same, get_or-set_other}
use Rattle.std.proofs.lemmas.Bool.{cases_Bool, cond-true, cond-false, false≢true, lt-ltb}
use Rattle.document.specs.Calls.{total, Kind, SCALAR, TEXT, SEQ, MAP, ENUM, UNIT, TUPLE, Cell, number, num}
use Rattle.document.specs.Nodes.{Path, root, ◌▹◌, Step, elem, key, value, field, alt, same, demand}
use Rattle.document.specs.Fetch.{Supply, supply, columns_of}
use Rattle.document.specs.Records.{brought}
use Rattle.document.specs.Reader.{Node, fresh, ready, Store, put, letter_count, spread, opened, taken}
use Rattle.document.proofs.Paths.{same_self, same_true, total-append}
use Rattle.document.proofs.Allotting.{length-brought}
use Rattle.nodes.specs.Marks.{mark_of, family_of}
use Rattle.nodes.specs.Homes.{Home}
use Rattle.nodes.proofs.Homes.{home-one, home-more}
use Rattle.nodes.proofs.Families.{family-takes, field_at}
use Rattle.de.specs.declared.records.Node.{Node as Row}
use Rattle.de.specs.declared.columns.Gain.{Gain}
use Rattle.de.specs.Moves.{Sheets, node, root_node, unread, with_children, grown, replaced, advanced}
use Rattle.de.specs.Reads.{ChildOf, Fathers, is_ready, columns_read, all_of, Values, Children, Kept, Reads}
use Rattle.de.specs.Viewed.{found}
use Rattle.de.specs.Taken.{columns_with, children_with, stepped}
use Rattle.de.proofs.Growing.{Alike, alike-same, alike-trans, linked-replaced, linked-advanced, fathers-ready, reads-parents, own, home-split, family-brought, Grew, linked-grow}
use Rattle.de.proofs.Keeping.{GoesOn, values_on, kept_on}
use Rattle.de.proofs.Answering.{letters_at, values_step}
use Rattle.de.proofs.Taking.{total_gain, put_here, put_other, put_cases}

-- ---- children get their numbers of values

-- the child of a node that was read gets as many values as the node demands
spread_child : (p : Path) (K : Kind) (ds : List Cell) (ns : Path → Node) (s : Step) → spread p K ds ns (p ▹ s) ≡ fresh (total (demand K s) ds)
spread_child p K ds ns s = cond-true (same p p) (fresh (total (demand K s) ds)) (ns (p ▹ s)) (same_self p)

-- and every other node is as it was
spread_other : (p : Path) (K : Kind) (ds : List Cell) (ns : Path → Node) (q : Path) → ((s : Step) → q ≡ p ▹ s → ⊥) → spread p K ds ns q ≡ ns q
spread_other p K ds ns root apart = refl
spread_other p K ds ns (r ▹ s) apart = ⊎_elim (λ e. absurd (apart s (ap (λ o. o ▹ s) (sym (same_true p r e))))) (λ e. cond-false (same p r) (fresh (total (demand K s) ds)) (ns (r ▹ s)) e) (cases_Bool (same p r))

-- a node is a child of p, or it is none
child_cases : (p q : Path) → ((s : Step) × (q ≡ p ▹ s)) ⊎ ((s : Step) → q ≡ p ▹ s → ⊥)
child_cases p root = inr (λ s e. absurd (root_alone p s e))
  where
    root_alone : (p : Path) (s : Step) → root ≡ p ▹ s → ⊥
    root_alone p s e = cc
child_cases p (r ▹ t) = ⊎_elim (λ e. inl (t, ap (λ o. o ▹ t) (sym (same_true p r e)))) (λ e. inr (λ s is. false≢true (sym e ∙ ap (same p) (above r p t s is) ∙ same_self p))) (cases_Bool (same p r))
  where
    above : (r p : Path) (t s : Step) → r ▹ t ≡ p ▹ s → r ≡ p
    above r p t s e = cc

-- ---- the children that a kind brings

-- each is a child by a step of the kind, and no branch
comes : (p : Path) (K : Kind) (j : ℕ) → j < length (brought p K) → (s : Step) × (get_or (brought p K) j root ≡ p ▹ s) × ChildOf K s × ((i : ℕ) → s ≡ alt i → ⊥)
comes p (SCALAR k) j h = absurd (omega arith)
comes p TEXT j h = absurd (omega arith)
comes p SEQ zero h = (elem, refl, refl, λ i e. cc)
comes p SEQ (suc j) h = absurd (omega arith)
comes p MAP zero h = (key, refl, inl refl, λ i e. cc)
comes p MAP (suc zero) h = (value, refl, inr refl, λ i e. cc)
comes p MAP (suc (suc j)) h = absurd (omega arith)
comes p ENUM j h = absurd (omega arith)
comes p UNIT j h = absurd (omega arith)
comes p (TUPLE n) j h =
    let l : j < n = omega (arith, length-brought p (TUPLE n)) in
    let e : 0 + j ≡ j = omega arith in
    (field j, field_at p 0 n j l ∙ ap (λ i. p ▹ field i) e, (j, l, refl), λ i e. cc)

-- as many columns are read as the kind has
columns_with_kind : (K : Kind) → columns_with (mark_of K) ≡ columns_of K
columns_with_kind (SCALAR k) = refl
columns_with_kind TEXT = refl
columns_with_kind SEQ = refl
columns_with_kind MAP = refl
columns_with_kind ENUM = refl
columns_with_kind UNIT = refl
columns_with_kind (TUPLE n) = refl

-- a branch has as many values as its index occurs among the numbers of the cells
enum_total : (s : Step) (ds : List Cell) → total (demand ENUM s) (each number (each num ds)) ≡ total (demand ENUM s) ds
enum_total s [] = refl
enum_total s (d ∷ ds) = ap (λ n. demand ENUM s d + n) (enum_total s ds)

-- how many values each child has that comes: the sum of the lengths, or a tuple's number
demanded : (K : Kind) (s : Step) (ds : List Cell) (count sum : ℕ) → ChildOf K s → ((i : ℕ) → s ≡ alt i → ⊥) → length ds ≡ count → ((K ≡ SEQ) ⊎ (K ≡ MAP) → sum ≡ total num ds)
    → total (demand K s) ds ≡ children_with (mark_of K) count sum
demanded (SCALAR k) s ds count sum l alone n e = absurd l
demanded TEXT s ds count sum l alone n e = absurd l
demanded SEQ s ds count sum l alone n e = ap (λ t. total (demand SEQ t) ds) l ∙ sym (e (inl refl))
demanded MAP s ds count sum (inl l) alone n e = ap (λ t. total (demand MAP t) ds) l ∙ sym (e (inr refl))
demanded MAP s ds count sum (inr l) alone n e = ap (λ t. total (demand MAP t) ds) l ∙ sym (e (inr refl))
demanded ENUM s ds count sum (i, l) alone n e = absurd (alone i l)
demanded UNIT s ds count sum l alone n e = absurd l
demanded (TUPLE m) s ds count sum (i, b, l) alone n e = ap (λ t. total (demand (TUPLE m) t) ds) l ∙ each_one m i ds b ∙ n
  where
    each_one : (m i : ℕ) (ds : List Cell) → i < m → total (demand (TUPLE m) (field i)) ds ≡ length ds
    each_one m i [] b = refl
    each_one m i (d ∷ ds) b = let one = cond-true {A = ℕ} (ltb i m) 1 0 (lt-ltb i m b) in omega (arith, one, each_one m i ds b)

-- ---- the tables

-- where a node's first text stands once its columns are read: at the end of what was read
abbrev pub first_text : Store → Supply → List Cell → ℕ
first_text S u ds = S.place + (length S.input - length u.input) - total letter_count ds

-- The columns of a node were read: there is room for its children, and its values stand in the slots that are taken then.
pub record Came (T : Sheets) (input : List ℕ) (S : Store) (x : Row) (K : Kind) (ds : List Cell) (u : Supply) (g : Gain) : Type 0 where
  pub room : T.used + family_of (mark_of K) ≤ min (length T.nodes) 65536
  pub taken : T.taken ≤ g.spot.taken
  pub usable : g.spot.taken ≤ min (length T.slots) 1048576
  pub from : T.place ≤ g.spot.place
  pub within : g.spot.place ≤ length input
  pub left : u ≡ supply (min (length T.slots) 1048576 - g.spot.taken) (drop g.spot.place input)
  pub count : length ds ≡ x.count
  pub values : Values (advanced g.spot.taken g.spot.place 0 T) (first_text S u ds) (found T (mark_of K) x g).node K ds
  pub sum : (K ≡ SEQ) ⊎ (K ≡ MAP) → g.sum ≡ total num ds

module _ (T : Sheets) (ps : List Path) (input : List ℕ) (S : Store) (h : Reads T ps input S) (r : ℕ) (p : Path) (home : Home ps r p) (rooted : S.rooted ≡ true) (n : ℕ) (was : S.nodes p ≡ fresh n) (K : Kind) (c : Cell) (cs : List Cell) (u : Supply) (g : Gain) (came : Came T input S (node T r) K (c ∷ cs) u g) (letters : ℕ) (text : letters ≡ letters_at K c) where
  -- the node's record, and the tables before the children come
  abbrev y : Row
  y = stepped letters (found T (mark_of K) (node T r) g).node

  abbrev B : Sheets
  B = advanced g.spot.taken g.spot.place (columns_with (mark_of K)) (replaced r y T)

  -- the tables and the store then, and the children that came
  abbrev T' : Sheets
  T' = grown r (family_of (mark_of K)) (children_with (mark_of K) (node T r).count g.sum) B

  abbrev S' : Store
  S' = taken p K c cs (opened p K (c ∷ cs) u S)

  abbrev qs : List Path
  qs = brought p K

  -- the node's record is in the table
  within : r < length T.nodes
  within = omega (arith, home.1, h.linked.used, h.room rooted)

  -- the node has no child yet
  childless : (k : ℕ) (s : Step) → Home ps k (p ▹ s) → ⊥
  childless k s hk = subst (Fathers s) was (h.fathers k p s hk)

  -- no node with a record is one
  no_child : (k : ℕ) (q : Path) → Home ps k q → (s : Step) → q ≡ p ▹ s → ⊥
  no_child k q hk s e = childless k s (subst (Home ps k) e hk)

  -- the children that the kind brings come
  grew : Grew B T' ps qs r (children_with (mark_of K) (node T r).count g.sum)
  grew =
      linked-grow B ps (linked-advanced (replaced r y T) ps g.spot.taken g.spot.place (columns_with (mark_of K)) (linked-replaced T ps r y refl refl refl h.linked)) (reads-parents T ps input S h) r p home childless (children_with (mark_of K) (node T r).count g.sum) K
      (omega (arith, came.room, length-set T.nodes r y))

  -- the nodes then
  at_this_node : S'.nodes p ≡ ready K cs
  at_this_node = put_here p (ready K cs) (spread p K (c ∷ cs) S.nodes)

  -- a child is to be read
  at_child : (s : Step) → S'.nodes (p ▹ s) ≡ fresh (total (demand K s) (c ∷ cs))
  at_child s = put_other p (p ▹ s) (ready K cs) (spread p K (c ∷ cs) S.nodes) (own p s) ∙ spread_child p K (c ∷ cs) S.nodes s

  -- every other node is as it was
  at_other : (q : Path) → (q ≡ p → ⊥) → ((s : Step) → q ≡ p ▹ s → ⊥) → S'.nodes q ≡ S.nodes q
  at_other q ne apart = put_other p q (ready K cs) (spread p K (c ∷ cs) S.nodes) ne ∙ spread_other p K (c ∷ cs) S.nodes q apart

  -- a child was not read before
  unread_child : (s : Step) → columns_read (S.nodes (p ▹ s)) ≡ 0
  unread_child s = go (S.nodes (p ▹ s)) refl
    where
      go : (x : Node) → S.nodes (p ▹ s) ≡ x → columns_read x ≡ 0
      go (fresh m) e = refl
      go (ready H ds) e = let (k, hk) = h.homes (p ▹ s) (ap is_ready e) in absurd (childless k s hk)

  -- no node has fewer columns than it had
  weighs : (q : Path) → columns_read (S.nodes q) ≤ columns_read (S'.nodes q)
  weighs q = ⊎_elim
      (λ e. let a = ap columns_read (ap S.nodes e ∙ was) in omega arith)
      (λ ne. ⊎_elim
      (λ is. let a = ap (λ o. columns_read (S.nodes o)) is.1 ∙ unread_child is.0 in omega arith)
      (λ apart. let a = ap columns_read (at_other q ne apart) in omega arith)
      (child_cases p q))
      (put_cases p q)

  -- the columns that were read are those of nodes that have records
  few : T.columns + columns_with (mark_of K) ≤ total (λ q. columns_read (S'.nodes q)) (ps ++ qs)
  few = go r home
    where
      f : Path → ℕ
      f q = columns_read (S.nodes q)

      gain : columns_read (S.nodes p) + columns_of K ≤ columns_read (S'.nodes p)
      gain = let a = ap columns_read was in let b = ap columns_read at_this_node in omega arith

      go : (k : ℕ) → Home ps k p → T.columns + columns_with (mark_of K) ≤ total (λ q. columns_read (S'.nodes q)) (ps ++ qs)
      go zero hk = omega (arith, hk.0)
      go (suc j) hk =
          let t = total_gain (λ q. columns_read (S.nodes q)) (λ q. columns_read (S'.nodes q)) (columns_of K) weighs p gain ps j (omega (arith, hk.1)) hk.2 in
          omega (arith, t, h.few, columns_with_kind K, total-append (λ q. columns_read (S'.nodes q)) ps qs)

  -- records that were there
  goes_on : (q : Path) → (q ≡ p → ⊥) → GoesOn T ps S T' (ps ++ qs) S' q
  goes_on q ne =
      record {
        taken = omega (arith, came.taken, grew.taken);
        place = omega (arith, came.from, grew.place);
        slots = ap (take T.taken) grew.slots;
        homes = λ k o hk. home-more ps qs k o hk;
        branches = λ i m. (m, at_other (q ▹ alt i) (λ e. false≢true (sym m ∙ h.making r q i (subst (Home ps r) (sym e) home))) (λ s e. ne (parent q p (alt i) s e)));
      }
    where
      parent : (q p : Path) (t s : Step) → q ▹ t ≡ p ▹ s → q ≡ p
      parent q p t s e = cc

  -- a record that was there differs at most in the one that comes next
  old_row : (k : ℕ) (q : Path) → Home ps k q → (q ≡ p → ⊥) → Alike (node T' k) (node T k)
  old_row k q hk ne =
      let other : k ≡ r → ⊥ = λ e. ne (home-one ps r q p (subst (λ j. Home ps j q) e hk) home) in
      alike-trans (node T' k) (node B k) (node T k) (grew.others k (omega (arith, hk.1, h.linked.used)) other) (alike-same (node B k) (node T k) (get_or-set_other T.nodes r k y root_node other))

  -- so it holds what it held
  kept_other : (k : ℕ) (q : Path) → Home ps k q → (q ≡ p → ⊥) → Kept T' (ps ++ qs) S' q (node T' k) (S'.nodes q)
  kept_other k q hk ne =
      let start = first_text S u (c ∷ cs) in
      let texts = put_other p q _ (put p start S.texts) ne ∙ put_other p q start S.texts ne in
      subst (Kept T' (ps ++ qs) S' q (node T' k)) (sym (at_other q ne (no_child k q hk)))
      (kept_on T ps S T' (ps ++ qs) S' q (goes_on q ne) (node T k) (node T' k) (old_row k q hk ne) texts (S.nodes q) (h.kept k q hk))

  -- the node itself
  own_row : Alike (node T' r) (with_children (node T' r).children y)
  own_row = subst (λ z. Alike (node T' r) (with_children (node T' r).children z)) (get_or-set_same T.nodes r y root_node within) grew.parent

  -- the children that came have their records one after another
  child_home : (j : ℕ) (s : Step) → j < length qs → get_or qs j root ≡ p ▹ s → Home (ps ++ qs) ((node T' r).children.first + j) (p ▹ s)
  child_home j s l is =
      let first : B.used + j ≡ (node T' r).children.first + j = omega (arith, grew.first (omega arith)) in
      subst₂ (λ k o. Home (ps ++ qs) k o) first is (grew.homes j l)

  -- the numbers of its cells are all its values
  all_values : ENUM ≡ K → each number (each num (c ∷ cs)) ≡ all_of T' (node T' r)
  all_values e =
      let lies = (subst (λ J. Values (advanced g.spot.taken g.spot.place 0 T) (first_text S u (c ∷ cs)) (found T (mark_of K) (node T r) g).node J (c ∷ cs)) (sym e) came.values).0 in
      ap (each number)
      (lies.left
      ∙ ap (λ k. take k (drop (T.taken + 0) T.slots)) (came.count ∙ sym own_row.count)
      ∙ ap₂ (λ k sl. take (node T' r).count (drop k sl)) (add-zero T.taken ∙ sym own_row.first) (sym grew.slots))

  -- its children
  own_children : (J : Kind) → J ≡ K → Children T' (ps ++ qs) S' p (node T' r) J
  own_children (SCALAR k) e = tt
  own_children TEXT e = tt
  own_children SEQ e = subst (λ k. Home (ps ++ qs) k (p ▹ elem)) (add-zero (node T' r).children.first) (child_home 0 elem (subst (λ J. 0 < length (brought p J)) e (omega arith)) (subst (λ J. get_or (brought p J) 0 root ≡ p ▹ elem) e refl))
  own_children MAP e = (
    subst (λ k. Home (ps ++ qs) k (p ▹ key)) (add-zero (node T' r).children.first) (child_home 0 key (subst (λ J. 0 < length (brought p J)) e (omega arith)) (subst (λ J. get_or (brought p J) 0 root ≡ p ▹ key) e refl)),
    child_home 1 value (subst (λ J. 1 < length (brought p J)) e (omega arith)) (subst (λ J. get_or (brought p J) 1 root ≡ p ▹ value) e refl),
  )
  own_children ENUM e = λ i m. at_child (alt i) ∙ ap fresh (ap (λ J. total (demand J (alt i)) (c ∷ cs)) (sym e) ∙ sym (enum_total (alt i) (c ∷ cs)) ∙ ap (total (demand ENUM (alt i))) (all_values e))
  own_children UNIT e = tt
  own_children (TUPLE m) e = λ j l.
      let z : 0 + j ≡ j = omega arith in
      child_home j (field j) (subst (λ J. j < length (brought p J)) e (omega (arith, length-brought p (TUPLE m)))) (subst (λ J. get_or (brought p J) j root ≡ p ▹ field j) e (field_at p 0 m j l ∙ ap (λ i. p ▹ field i) z))

  -- its values that are left
  own_values : Values T' (S'.texts p) (node T' r) K cs
  own_values =
      let A = advanced g.spot.taken g.spot.place 0 T in
      let x = (found T (mark_of K) (node T r) g).node in
      let start = first_text S u (c ∷ cs) in
      let v = values_step A start letters x K c cs text came.values in
      let on : GoesOn A ps S' T' (ps ++ qs) S' p =
      record { taken = omega (arith, grew.taken); place = omega (arith, grew.place); slots = ap (take g.spot.taken) grew.slots; homes = λ k o hk. home-more ps qs k o hk; branches = λ i m. (m, refl) } in
      let texts : S'.texts p ≡ start + letter_count c = put_here p _ (put p start S.texts) ∙ ap (λ k. k + letter_count c) (put_here p start S.texts) in
      values_on A ps S' T' (ps ++ qs) S' p on (stepped letters x) (node T' r) own_row.first own_row.done own_row.count own_row.text (start + letter_count c) (S'.texts p) texts K cs (omega (arith, came.count)) v

  -- so its record holds what the node is then
  own_kept : Kept T' (ps ++ qs) S' p (node T' r) (ready K cs)
  own_kept = (own_row.mark, omega (arith, own_row.done, own_row.count, came.count), own_values, own_children K refl)

  -- the children that came
  kept_new : (k : ℕ) (q : Path) (j : ℕ) → j < length qs → k ≡ 1 + length ps + j → get_or qs j root ≡ q → Kept T' (ps ++ qs) S' q (node T' k) (S'.nodes q)
  kept_new k q j l e is =
      let (s, there, leads, alone) = comes p K j l in
      let child : q ≡ p ▹ s = sym is ∙ there in
      let at : k ≡ B.used + j = omega (arith, h.linked.used) in
      let row = subst (λ i. Alike (node T' i) (unread j (children_with (mark_of K) (node T r).count g.sum))) (sym at) (grew.children j l) in
      subst (Kept T' (ps ++ qs) S' q (node T' k)) (sym (ap S'.nodes child ∙ at_child s)) (row.mark, row.count ∙ sym (demanded K s (c ∷ cs) (node T r).count g.sum leads alone came.count came.sum))

  -- so the tables stand for the store after it
  pub takes_first : Reads T' (ps ++ qs) input S'
  takes_first = record {
    linked = grew.linked;
    rooted = h.rooted ∙ ap (ltb 1) (sym size);
    records = omega (arith, h.records, grew.used, size, family-takes K, family-brought p K);
    room = λ e. omega (arith, came.room, grew.used, size, family-brought p K);
    slots = ap (λ v. v.slots) came.left ∙ ap₂ (λ sl t. min (length sl) 1048576 - t) (sym grew.slots) (sym grew.taken);
    taken = omega (arith, came.usable, grew.taken, ap length grew.slots);
    rest = ap (λ v. v.input) came.left ∙ ap (λ k. drop k input) (sym grew.place);
    place = omega (arith, h.place, ap length h.rest, length-drop T.place input, ap (λ (v : Supply). length v.input) came.left, length-drop g.spot.place input, came.from, came.within, grew.place);
    within = omega (arith, came.within, grew.place);
    columns = omega (arith, h.columns, grew.columns, columns_with_kind K);
    few = omega (arith, few, grew.columns);
    made = λ q i m. let (k, hk) = h.made q i m in (k, home-more ps qs k (q ▹ alt i) hk);
    making = making;
    fathers = fathers;
    homes = homes;
    kept = λ k q hk. ⊎_elim (λ o. ⊎_elim (λ e. itself k q o e) (kept_other k q o) (put_cases p q)) (λ (j, l, e, is). kept_new k q j l e is) (home-split ps qs k q hk);
  }
    where
      size : length T'.nodes ≡ length T.nodes
      size = grew.size ∙ length-set T.nodes r y

      step_of : {o q : Path} {s t : Step} → o ▹ s ≡ q ▹ t → s ≡ t
      step_of e = cc

      node_above : {o q : Path} {s t : Step} → o ▹ s ≡ q ▹ t → q ≡ o
      node_above e = cc

      making : (k : ℕ) (q : Path) (i : ℕ) → Home (ps ++ qs) k (q ▹ alt i) → S'.made (q ▹ alt i) ≡ true
      making k q i hk = ⊎_elim (λ o. h.making k q i o) (λ (j, l, e, is). let (s, there, leads, alone) = comes p K j l in absurd (alone i (step_of (sym there ∙ is)))) (home-split ps qs k (q ▹ alt i) hk)

      fathers : (k : ℕ) (q : Path) (s : Step) → Home (ps ++ qs) k (q ▹ s) → Fathers s (S'.nodes q)
      fathers k q s hk = ⊎_elim old new (home-split ps qs k (q ▹ s) hk)
        where
          old : Home ps k (q ▹ s) → Fathers s (S'.nodes q)
          old o =
              let f = h.fathers k q s o in
              let (j, hj) = h.homes q (fathers-ready (S.nodes q) s f) in
              subst (Fathers s) (sym (at_other q (λ e. childless k s (subst (λ z. Home ps k (z ▹ s)) e o)) (no_child j q hj))) f

          new : (j : ℕ) × (j < length qs) × (k ≡ 1 + length ps + j) × (get_or qs j root ≡ q ▹ s) → Fathers s (S'.nodes q)
          new (j, l, e, is) =
              let (t, there, leads, alone) = comes p K j l in
              subst (Fathers s) (sym (ap S'.nodes (node_above (sym there ∙ is)) ∙ at_this_node)) (subst (ChildOf K) (step_of (sym there ∙ is)) leads)

      homes : (q : Path) → is_ready (S'.nodes q) ≡ true → (k : ℕ) × Home (ps ++ qs) k q
      homes q e = ⊎_elim
          (λ is. (r, home-more ps qs r q (subst (Home ps r) (sym is) home)))
          (λ ne. ⊎_elim
          (λ is. absurd (false≢true (sym (ap is_ready (ap S'.nodes is.1 ∙ at_child is.0)) ∙ e)))
          (λ apart. let (k, hk) = h.homes q (ap is_ready (sym (at_other q ne apart)) ∙ e) in (k, home-more ps qs k q hk))
          (child_cases p q))
          (put_cases p q)

      itself : (k : ℕ) (q : Path) → Home ps k q → q ≡ p → Kept T' (ps ++ qs) S' q (node T' k) (S'.nodes q)
      itself k q o e =
          let one : k ≡ r = h.linked.once k r p (subst (Home ps k) e o) home in
          subst (λ z. Kept T' (ps ++ qs) S' z (node T' k) (S'.nodes z)) (sym e) (subst₂ (Kept T' (ps ++ qs) S' p) (sym (ap (node T') one)) (sym at_this_node) own_kept)
