-- A new index of an enum gets its record.
use Rattle.std.proofs.Common.{◌≡◌, ℕ, ◌+◌, ◌<◌, ◌≤◌, ◌≢◌, Bool, true, false, cond, ◌⊎◌, List, [], ◌∷◌, ◌++◌, length, ltb, sym, refl, ap, ◌∙◌, subst, subst₂, inl, inr, ⊎_elim, arith}
use Rattle.std.proofs.lemmas.Bool.{cases_eq, cond-true, false≢true}
use Rattle.chain.specs.declared.Chain.{Chain}
use Rattle.chain.specs.Chains.{longer}
use Rattle.document.specs.Calls.{ENUM, Cell}
use Rattle.document.specs.Nodes.{Path, ◌▹◌, Step, alt, same}
use Rattle.document.specs.Reader.{Node, ready, Store, with_child}
use Rattle.document.proofs.Paths.{same_self, same_true, total-append}
use Rattle.nodes.specs.Homes.{Home}
use Rattle.nodes.proofs.Homes.{home-more, home-new, home-cases, home-one}
use Rattle.de.specs.declared.records.Node.{Node as Row}
use Rattle.de.specs.Moves.{Sheets, node, with_children, spawned, child_of}
use Rattle.de.specs.Reads.{ChildOf, Fathers, columns_read, Kept, Reads}
use Rattle.de.specs.Taken.{occurrences}
use Rattle.de.proofs.Growing.{length-spawned, spawned-others, spawned-parent, spawned-child, linked-tail, reads-parents, linked-spawn}
use Rattle.de.proofs.Founding.{found-child}
use Rattle.de.proofs.Keeping.{GoesOn, kept_on}

-- ---- whether an index is new

-- only branches lead from a node: it is to be read, or was read as an enum
abbrev pub Branching : Node → Type 0
Branching n = (s : Step) → Fathers s n → ChildOf ENUM s

-- An index whose child has no record is not found; the record of another one's child is found.
pub branch_made : (T : Sheets) (ps : List Path) (input : List ℕ) (S : Store) → Reads T ps input S → (r : ℕ) (p : Path) → Home ps r p → Branching (S.nodes p) → (x : Row) → x.children ≡ (node T r).children
    → (i : ℕ) → ((child_of T x i ≡ 0) × (S.made (p ▹ alt i) ≡ false)) ⊎ (Home ps (child_of T x i) (p ▹ alt i) × (S.made (p ▹ alt i) ≡ true))
branch_made T ps input S R r p home only x e i = ⊎_elim
    (λ n. inl (n.0, unmade (S.made (p ▹ alt i)) refl n.1))
    (λ h. inr (h, R.making (child_of T x i) p i h))
    (found-child T ps R.linked r p home (λ k s h. only s (R.fathers k p s h)) x e i)
  where
    unmade : (b : Bool) → S.made (p ▹ alt i) ≡ b → ((k : ℕ) → Home ps k (p ▹ alt i) → ⊥) → b ≡ false
    unmade true m none = let (k, h) = R.made p i m in absurd (none k h)
    unmade false m none = refl

-- ---- the record of a new index

-- an enum's record may have other children: none of what it holds is theirs
kept-children : (T : Sheets) (ps : List Path) (S : Store) (p : Path) (c : Chain) (x : Row) (cs : List Cell) → Kept T ps S p x (ready ENUM cs) → Kept T ps S p (with_children c x) (ready ENUM cs)
kept-children T ps S p c x cs (m, n, (l, b), ch) = (m, n, (record { within = l.within; left = l.left }, b), ch)

-- which children have a record once one more has
module _ (q : Path) (S : Store) where
  -- those that had one have one
  made-still : (o : Path) → S.made o ≡ true → (with_child q S).made o ≡ true
  made-still o m = go (same q o)
    where
      go : (b : Bool) → cond b true (S.made o) ≡ true
      go true = refl
      go false = m

  -- one that has a record is the new one, or had one
  made-either : (o : Path) → (with_child q S).made o ≡ true → (o ≡ q) ⊎ (S.made o ≡ true)
  made-either o = go (same q o) refl
    where
      go : (b : Bool) → same q o ≡ b → cond b true (S.made o) ≡ true → (o ≡ q) ⊎ (S.made o ≡ true)
      go true e m = inl (sym (same_true q o e))
      go false e m = inr m

  -- one without a record had none
  unmade-before : (o : Path) → (with_child q S).made o ≡ false → S.made o ≡ false
  unmade-before o = go (same q o)
    where
      go : (b : Bool) → cond b true (S.made o) ≡ false → S.made o ≡ false
      go true m = cc
      go false m = m

-- The tables stand for the store in which the child has its record.
module _ (T : Sheets) (ps : List Path) (input : List ℕ) (S : Store) (R : Reads T ps input S) (r : ℕ) (p : Path) (home : Home ps r p) (cs : List Cell) (enum : S.nodes p ≡ ready ENUM cs) (i : ℕ) (new : S.made (p ▹ alt i) ≡ false) (free : 1 ≤ S.records) where
  -- they stand for it
  pub branch_reads : Reads (spawned r i (occurrences T (node T r) i) T) (ps ++ (p ▹ alt i) ∷ []) input (with_child (p ▹ alt i) S)
  branch_reads = record {
    linked = linked-spawn T ps R.linked (reads-parents T ps input S R) r p home (alt i) none i n refl room;
    rooted = R.rooted ∙ sym (ap (ltb 1) size);
    records = omega (arith, R.records, size);
    room = λ e. omega (arith, R.records, size);
    slots = R.slots;
    taken = R.taken;
    rest = R.rest;
    place = R.place;
    within = R.within;
    columns = R.columns;
    few = omega (arith, R.few, total-append (λ o. columns_read (S.nodes o)) ps (q ∷ []));
    made = λ o j m. ⊎_elim (λ e. (1 + length ps, subst (Home ps' (1 + length ps)) (sym e) (home-new ps q))) (λ b. let (k, h) = R.made o j b in (k, home-more ps (q ∷ []) k (o ▹ alt j) h)) (made-either q S (o ▹ alt j) m);
    making = λ k o j h. ⊎_elim (λ b. made-still q S (o ▹ alt j) (R.making k o j b)) (λ e. cond-true (same q (o ▹ alt j)) _ _ (ap (same q) e.1 ∙ same_self q)) (home-cases ps q k (o ▹ alt j) h);
    fathers = λ k o s h. ⊎_elim (λ b. R.fathers k o s b) (λ e. father o s e.1) (home-cases ps q k (o ▹ s) h);
    homes = λ o e. let (k, h) = R.homes o e in (k, home-more ps (q ∷ []) k o h);
    kept = λ k o h. ⊎_elim (old k o) (λ e. come k o e) (home-cases ps q k o h);
  }
    where
      q : Path
      q = p ▹ alt i

      ps' : List Path
      ps' = ps ++ q ∷ []

      n : ℕ
      n = occurrences T (node T r) i

      T' : Sheets
      T' = spawned r i n T

      S' : Store
      S' = with_child q S

      size : length (spawned r i n T).nodes ≡ length T.nodes
      size = length-spawned r i n T

      room : T.used < length T.nodes
      room = omega (arith, R.records, free)

      used : r ≢ T.used
      used e = omega (arith, R.linked.used, home.1)

      none : (k : ℕ) → Home ps k (p ▹ alt i) → ⊥
      none k h = false≢true (sym new ∙ R.making k p i h)

      father : (o : Path) (s : Step) → o ▹ s ≡ q → Fathers s (S.nodes o)
      father o s e =
          let a : o ≡ p = cc in
          let b : s ≡ alt i = cc in
          subst₂ (λ t x. Fathers t (S.nodes x)) (sym b) (sym a) (subst (Fathers (alt i)) (sym enum) (i, refl))

      holds : Kept T ps S p (node T r) (ready ENUM cs)
      holds = subst (Kept T ps S p (node T r)) enum (R.kept r p home)

      on : (o : Path) → GoesOn T ps S T' ps' S' o
      on o = record {
        taken = omega arith;
        place = omega arith;
        slots = refl;
        homes = λ k x h. home-more ps (q ∷ []) k x h;
        branches = λ j m. (unmade-before q S (o ▹ alt j) m, refl);
      }

      -- p's own record has one child more
      own : Kept T' ps' S' p (node T' r) (S.nodes p)
      own =
          let c = longer (node T r).children T.used in
          let like = spawned-parent r i n T room (omega (arith, R.linked.used, home.1)) used in
          subst (Kept T' ps' S' p (node T' r)) (sym enum) (kept_on T ps S T' ps' S' p (on p) (with_children c (node T r)) (node T' r) like refl (ready ENUM cs) (kept-children T ps S p c (node T r) cs holds))

      -- a record that was in use
      old : (k : ℕ) (o : Path) → Home ps k o → Kept T' ps' S' o (node T' k) (S.nodes o)
      old k o h = ⊎_elim
          (λ e. let here : o ≡ p = home-one ps r o p (subst (λ j. Home ps j o) e h) home in subst₂ (λ j x. Kept T' ps' S' x (node T' j) (S.nodes x)) (sym e) (sym here) own)
          (λ ne. kept_on T ps S T' ps' S' o (on o) (node T k) (node T' k) (spawned-others r i n T room k ne (λ z. omega (arith, R.linked.used, h.1))) refl (S.nodes o) (R.kept k o h))
          (cases_eq k r)

      -- the new one has as many values as the index occurs
      come : (k : ℕ) (o : Path) → (k ≡ 1 + length ps) × (o ≡ q) → Kept T' ps' S' o (node T' k) (S.nodes o)
      come k o e =
          let place : k ≡ T.used = omega (arith, R.linked.used, e.0) in
          let row = ap (node T') place ∙ spawned-child r i n T room used (λ z. omega (arith, linked-tail T ps R.linked r p home)) in
          subst₂ (Kept T' ps' S' o) (sym row) (sym (ap S.nodes e.1 ∙ holds.3 i new)) (refl, refl)
