-- The tables judge a value as the definitions do.
use Rattle.std.proofs.Common.{◌≡◌, ℕ, zero, suc, ◌+◌, ◌-◌, ◌≤◌, min, Bool, true, false, cond, not, ◌&&◌, ◌||◌, eqb, ltb, leb, ◌⊎◌, List, [], ◌∷◌, ◌++◌, length, sym, refl, ap, ◌∙◌, inl, inr, ⊎_elim, arith, length-append}
use Rattle.std.specs.List.{AllByRecursion}
use Rattle.std.proofs.ByRecursion.{All-weaker}
use Rattle.std.proofs.Math.Bool.{or-false}
use Rattle.std.proofs.lemmas.Bool.{eq-eqb, ne_eqb, lt-leb, or_parts, or_from, cond-true, cond-false}
use Rattle.std.proofs.lemmas.Bool.Decides.{nat_tests}
use Rattle.document.specs.Calls.{total, extent, Value, scalar, text, unit, none, some, variant, seq, map, tuple, ENUM, UNIT, kind, Call, val}
use Rattle.document.specs.Nodes.{Path, ◌▹◌, alt, same}
use Rattle.document.specs.Entries.{Entry, entry, leaves, at}
use Rattle.document.specs.Places.{start}
use Rattle.document.specs.Trace.{trace}
use Rattle.document.specs.Columns.{limit}
use Rattle.document.specs.Tables.{branch_of, new_branch, cells_of, records_of, letters_of, usable_nodes, usable_cells, usable_text}
use Rattle.document.specs.Records.{had, added_by, added, marked, nodes_of, times}
use Rattle.document.specs.Verdict.{any_of, strange, clash, too_long, weighed, Accepted}
use Rattle.document.proofs.Paths.{at-append, total-append}
use Rattle.document.proofs.Sound.{OneKind}
use Rattle.document.proofs.Accepting.{same_kind}
use Rattle.document.proofs.Between.{at_here}
use Rattle.document.proofs.Allotting.{length-nodes}
use Rattle.document.proofs.Growth.{records-more, cells-more, letters-more, length_marked, length-added-one, branch-there}
use Rattle.nodes.specs.declared.marks.Mark.TheVariants as marks
use Rattle.nodes.specs.Marks.{mark_of, mark_at}
use Rattle.nodes.specs.Homes.{Home}
use Rattle.nodes.proofs.Homes.{home-times}
use Rattle.nodes.proofs.Kin.{mark-number}
use Rattle.nodes.proofs.Families.{family-takes}
use Rattle.ser.specs.Brings.{load_of, load_cells, load_extent, index_of, letters_in, is_lone}
use Rattle.ser.specs.Moves.{Sheets, node, child_of, branch_in}
use Rattle.ser.specs.Tables.{sizes_of, is_other, no_unit, strange_at, new_child, nodes_for, lacks_nodes, lacks_cells, lacks_text, is_too_long, weighed_at}
use Rattle.ser.specs.Held.{Holds}
use Rattle.ser.proofs.Found.{fresh_at, child-found, length-slots}
use Rattle.ser.proofs.Bounded.{Bounded, accepted-bounded, unseen}

-- ---- what a value leaves

-- A value that leaves one entry, at its own node.
pub record Plain (v : Value) : Type 0 where
  pub left : (p : Path) → leaves p v ≡ entry p v ∷ []
  pub single : is_lone (val v) ≡ false
  pub unitless : (T : Sheets) (k : ℕ) → no_unit T k (val v) ≡ false

-- What holds of `none`, of `tuple 1` and of each such value holds of every value.
pub by_shape : (P : Value → Type 0) → P none → P (tuple 1) → ((v : Value) → Plain v → P v) → (v : Value) → P v
by_shape P a b c (scalar k x) = c (scalar k x) (record { left = λ p. refl; single = refl; unitless = λ T k. refl })
by_shape P a b c (text bs) = c (text bs) (record { left = λ p. refl; single = refl; unitless = λ T k. refl })
by_shape P a b c unit = c unit (record { left = λ p. refl; single = refl; unitless = λ T k. refl })
by_shape P a b c none = a
by_shape P a b c some = c some (record { left = λ p. refl; single = refl; unitless = λ T k. refl })
by_shape P a b c (variant i) = c (variant i) (record { left = λ p. refl; single = refl; unitless = λ T k. refl })
by_shape P a b c (seq n) = c (seq n) (record { left = λ p. refl; single = refl; unitless = λ T k. refl })
by_shape P a b c (map n) = c (map n) (record { left = λ p. refl; single = refl; unitless = λ T k. refl })
by_shape P a b c (tuple zero) = c (tuple 0) (record { left = λ p. refl; single = refl; unitless = λ T k. refl })
by_shape P a b c (tuple (suc zero)) = b
by_shape P a b c (tuple (suc (suc n))) = c (tuple (suc (suc n))) (record { left = λ p. refl; single = ne_eqb (suc (suc n)) 1 (λ e. omega arith); unitless = λ T k. refl })

-- What a value adds to its node's sum of lengths is its extent.
extent-load : (v : Value) → load_extent (load_of v) ≡ extent v
extent-load (scalar k b) = refl
extent-load (text bs) = refl
extent-load unit = refl
extent-load none = refl
extent-load some = refl
extent-load (variant i) = refl
extent-load (seq n) = refl
extent-load (map n) = refl
extent-load (tuple n) = refl

-- The cells that a value's load takes are those of its entries.
pub cells_load : (p : Path) (v : Value) → cells_of (leaves p v) ≡ load_cells (load_of v)
cells_load p (scalar k b) = refl
cells_load p (text bs) = omega arith
cells_load p unit = refl
cells_load p none = refl
cells_load p some = refl
cells_load p (variant i) = refl
cells_load p (seq n) = omega arith
cells_load p (map n) = omega arith
cells_load p (tuple zero) = refl
cells_load p (tuple (suc zero)) = refl
cells_load p (tuple (suc (suc n))) = refl

-- The letters that a value brings are those of its entries.
pub letters-load : (p : Path) (v : Value) → letters_of (leaves p v) ≡ length (letters_in (val v))
letters-load p (scalar k b) = refl
letters-load p (text bs) = omega arith
letters-load p unit = refl
letters-load p none = refl
letters-load p some = refl
letters-load p (variant i) = refl
letters-load p (seq n) = refl
letters-load p (map n) = refl
letters-load p (tuple zero) = refl
letters-load p (tuple (suc zero)) = refl
letters-load p (tuple (suc (suc n))) = refl

-- A unit adds no node with a record.
unit-adds : (ds : List Entry) (q : Path) → length (added ds (entry q unit)) ≡ 0
unit-adds ds q = go (at q ds)
  where
    go : (vs : List Value) → length (marked vs q UNIT ++ []) ≡ 0
    go [] = refl
    go (v ∷ vs) = refl

-- ---- kinds

-- A record is marked otherwise where the value is strange among those at its node.
other-strange : (T : Sheets) (r : ℕ) (vs : List Value) (v : Value) → (node T r).mark ≡ mark_at vs → is_other T r (mark_of (kind v)) ≡ strange vs v
other-strange T r [] v e = rw (fresh_at T r [] e) refl
other-strange T r (u ∷ us) v e = rw (fresh_at T r (u ∷ us) e, e, mark-number (kind u), mark-number (kind v)) (grind (arith, nat_tests))

-- Values of one kind, among which one of ENUM is not strange, are all of ENUM.
pub enums : (vs : List Value) (v : Value) → OneKind vs → kind v ≡ ENUM → strange vs v ≡ false → AllByRecursion (λ u. kind u ≡ ENUM) vs
enums [] v h k s = tt
enums (u ∷ us) v h k s = let e : kind u ≡ ENUM = sym (same_kind u v us s) ∙ k in (e, All-weaker (λ w. kind w ≡ kind u) (λ w. kind w ≡ ENUM) (λ w q. q ∙ e) us h)

-- Two tests in turn say the same where the first ones do, and where those fail the second ones.
or_same : (a b c d : Bool) → a ≡ b → (b ≡ false → c ≡ d) → (a || c) ≡ (b || d)
or_same a true c d e k = rw e refl
or_same a false c d e k = rw e (k refl)

-- ---- numbers

-- Room for nodes, with record 0 counted among those in use and without it.
nodes-lack : (m used more records : ℕ) → used + more ≡ 2 + records → ltb m (used + more) ≡ ltb (m - 1) (1 + records)
nodes-lack m used more records e = rw e (grind (arith, nat_tests))

-- Room for cells, of which none is lacking where none is taken.
cells-lack : (m taken held more : ℕ) → taken ≡ 1 + held → held ≤ m - 1 → (not (eqb more 0) && ltb m (taken + more)) ≡ ltb (m - 1) (held + more)
cells-lack m taken held more e l = rw e (grind (arith, nat_tests))

-- ---- the seven tests

module _ (T : Sheets) (ts : List Entry) (bounded : Bounded (sizes_of T) ts) (h : Holds T ts) (r : ℕ) (p : Path) (home : Home (nodes_of ts) r p) where
  -- The child of an index, where a value that takes it is not strange: there is none, or it is that child's record.
  child-there : (i : ℕ) (v : Value) → kind v ≡ ENUM → strange (at p ts) v ≡ false
      → ((times (p ▹ alt i) (nodes_of ts) ≡ 0) × (child_of T r i ≡ 0)) ⊎ Home (nodes_of ts) (child_of T r i) (p ▹ alt i)
  child-there i v k s = child-found T ts h r p home (enums (at p ts) v (bounded.sound p).one-kind k s) i

  -- The unit of a `none` clashes where its record says so.
  unit-strange : strange (at p ts) none ≡ false → no_unit T (child_of T r 0) (val none) ≡ strange (at (p ▹ alt 0) ts) unit
  unit-strange s = ⊎_elim
      (λ n. rw (n.1, unseen (sizes_of T) ts bounded (p ▹ alt 0) n.0) refl)
      (λ there. rw (ne_eqb (child_of T r 0) 0 (λ z. omega (arith, there.0))) (other-strange T (child_of T r 0) (at (p ▹ alt 0) ts) unit (h.holding.marks (child_of T r 0) (p ▹ alt 0) there)))
      (child-there 0 none refl s)

  -- The tables find a value of another kind where the definitions do.
  kinds : (v : Value) → strange_at T r (branch_in T r (index_of v)) (val v) ≡ any_of (clash ts) (leaves p v)
  kinds = by_shape (λ v. strange_at T r (branch_in T r (index_of v)) (val v) ≡ any_of (clash ts) (leaves p v))
      (or_same (is_other T r marks.Enum) (strange (at p ts) none) (no_unit T (child_of T r 0) (val none)) (strange (at (p ▹ alt 0) ts) unit || false)
      (other-strange T r (at p ts) none (h.holding.marks r p home))
      (λ s. unit-strange s ∙ sym (or-false (strange (at (p ▹ alt 0) ts) unit))))
      refl
      (λ v k. rw (k.left p, k.single, k.unitless T (branch_in T r (index_of v))) (ap (λ b. b || false) (other-strange T r (at p ts) v (h.holding.marks r p home))))

  -- The child of an index is new where the index is.
  index-new : (i : ℕ) (v : Value) → kind v ≡ ENUM → strange (at p ts) v ≡ false → ◌≡◌ {A = ℕ} (cond (eqb (child_of T r i) 0) 1 0) (cond (had (λ j. false) (at p ts) i) 0 1)
  index-new i v k s = go (had (λ j. false) (at p ts) i) (branch-there ts p i) (child-there i v k s)
    where
      go : (b : Bool) → times (p ▹ alt i) (nodes_of ts) ≡ cond b 1 0 → ((times (p ▹ alt i) (nodes_of ts) ≡ 0) × (child_of T r i ≡ 0)) ⊎ Home (nodes_of ts) (child_of T r i) (p ▹ alt i)
          → ◌≡◌ {A = ℕ} (cond (eqb (child_of T r i) 0) 1 0) (cond b 0 1)
      go true e (inl n) = absurd (omega (arith, n.0))
      go true e (inr there) = cond-false (eqb (child_of T r i) 0) 1 0 (ne_eqb (child_of T r i) 0 (λ z. omega (arith, there.0)))
      go false e (inl n) = cond-true (eqb (child_of T r i) 0) 1 0 (eq-eqb (child_of T r i) 0 n.1)
      go false e (inr there) = absurd (omega (arith, home-times (nodes_of ts) (child_of T r i) (p ▹ alt i) there))

  -- So it is with the child of the value that follows.
  branch-new : (v : Value) → strange (at p ts) v ≡ false → new_child (branch_in T r (index_of v)) (index_of v) ≡ new_branch (had (λ i. false) (at p ts)) (branch_of v)
  branch-new (scalar k b) s = refl
  branch-new (text bs) s = refl
  branch-new unit s = refl
  branch-new none s = index-new 0 none refl s
  branch-new some s = index-new 1 some refl s
  branch-new (variant i) s = index-new i (variant i) refl s
  branch-new (seq n) s = refl
  branch-new (map n) s = refl
  branch-new (tuple n) s = refl

  -- The records that a value is charged for are those of the nodes that its own entry adds.
  nodes-own : (v : Value) → is_lone (val v) ≡ false → strange (at p ts) v ≡ false → nodes_for T r (branch_in T r (index_of v)) (val v) ≡ length (added ts (entry p v))
  nodes-own v l s = rw (l, fresh_at T r (at p ts) (h.holding.marks r p home), family-takes (kind v), branch-new v s)
      (sym (length-added-one ts (entry p v) ∙ ap (λ n. n + new_branch (had (λ i. false) (at p ts)) (branch_of v)) (length_marked (at p ts) p (kind v))))

  -- The records that a value is charged for are those of the nodes that its entries add.
  nodes-for : (v : Value) → any_of (clash ts) (leaves p v) ≡ false → nodes_for T r (branch_in T r (index_of v)) (val v) ≡ length (added_by ts (leaves p v))
  nodes-for = by_shape (λ v. any_of (clash ts) (leaves p v) ≡ false → nodes_for T r (branch_in T r (index_of v)) (val v) ≡ length (added_by ts (leaves p v)))
      (λ s. nodes-own none refl (or_parts (strange (at p ts) none) (strange (at (p ▹ alt 0) ts) unit || false) s).0
      ∙ omega (arith, length-append (added ts (entry p none)) (added (ts ++ entry p none ∷ []) (entry (p ▹ alt 0) unit) ++ []), length-append (added (ts ++ entry p none ∷ []) (entry (p ▹ alt 0) unit)) [], unit-adds (ts ++ entry p none ∷ []) (p ▹ alt 0)))
      (λ s. omega arith)
      (λ v k. rw (k.left p) (λ s. nodes-own v k.single (or_parts (strange (at p ts) v) false s).0 ∙ omega (arith, length-append (added ts (entry p v)) [])))

  -- The tables lack nodes where the definitions do.
  nodes : (v : Value) → any_of (clash ts) (leaves p v) ≡ false
      → lacks_nodes T (nodes_for T r (branch_in T r (index_of v)) (val v)) ≡ ltb (usable_nodes (length T.nodes)) (1 + records_of (ts ++ leaves p v))
  nodes v s = nodes-lack (min (length T.nodes) 65536) T.used (nodes_for T r (branch_in T r (index_of v)) (val v)) (records_of (ts ++ leaves p v))
      (omega (arith, h.holding.used, length-nodes ts, records-more ts (leaves p v), nodes-for v s))

  -- The tables lack cells where the definitions do.
  lacking-cells : (v : Value) → lacks_cells T (load_cells (load_of v)) ≡ ltb (usable_cells (length T.cells)) (cells_of (ts ++ leaves p v))
  lacking-cells v =
      cells-lack (min (length T.cells) 1048576) T.taken (cells_of ts) (load_cells (load_of v)) (omega (arith, h.holding.taken, length-slots ts)) bounded.cells
      ∙ ap (ltb (usable_cells (length T.cells))) (omega (arith, cells-more ts (leaves p v), cells_load p v))

  -- What is at a node after more entries adds up.
  extent-more : (q : Path) (es : List Entry) → total extent (at q (ts ++ es)) ≡ total extent (at q ts) + total extent (at q es)
  extent-more q es = ap (total extent) (at-append q ts es) ∙ total-append extent (at q ts) (at q es)

  -- A `none` and its unit bring no length.
  none-short : (q : Path) → leb limit (total extent (at q (ts ++ leaves p none))) ≡ false
  none-short q = lt-leb limit (total extent (at q (ts ++ leaves p none))) (omega (arith, (bounded.sound q).short-of, extent-more q (leaves p none), go (same p q) (same (p ▹ alt 0) q)))
    where
      go : (a b : Bool) → total extent (cond a (none ∷ cond b (unit ∷ []) []) (cond b (unit ∷ []) [])) ≡ 0
      go true true = refl
      go true false = refl
      go false true = refl
      go false false = refl

  -- The record's sum of lengths is short of the limit.
  sum-short : leb limit ((node T r).sum + 0) ≡ false
  sum-short = lt-leb limit ((node T r).sum + 0) (omega (arith, h.holding.sums r p home, (bounded.sound p).short-of))

  -- The tables find the lengths too long where the definitions do.
  sums : (v : Value) → is_too_long T r (load_extent (load_of v)) ≡ any_of (too_long (ts ++ leaves p v)) (leaves p v)
  sums = by_shape (λ v. is_too_long T r (load_extent (load_of v)) ≡ any_of (too_long (ts ++ leaves p v)) (leaves p v))
      (sum-short ∙ sym (or_from (too_long (ts ++ leaves p none) (entry p none)) (too_long (ts ++ leaves p none) (entry (p ▹ alt 0) unit) || false) (none-short p) (or_from (too_long (ts ++ leaves p none) (entry (p ▹ alt 0) unit)) false (none-short (p ▹ alt 0)) refl)))
      sum-short
      (λ v k. rw (k.left p)
      (ap (leb limit) (omega (arith, h.holding.sums r p home, extent-load v, extent-more p (entry p v ∷ []), ap (total extent) (at_here p v [])))
      ∙ sym (or-false (leb limit (total extent (at p (ts ++ entry p v ∷ [])))))))

  -- The tables lack text where the definitions do.
  lacking-text : (v : Value) → lacks_text T (length (letters_in (val v))) ≡ ltb (usable_text (length T.text)) (letters_of (ts ++ leaves p v))
  lacking-text v = ap (ltb (usable_text (length T.text))) (omega (arith, h.holding.filled, letters-more ts (leaves p v), letters-load p v))

  -- The tables judge the value as the definitions do.
  weighed-same : (v : Value) → weighed_at T r (branch_in T r (index_of v)) (val v) ≡ weighed (sizes_of T) ts v (leaves p v)
  unfolding weighed_at
  weighed-same v = go (any_of (clash ts) (leaves p v)) refl
    where
      go : (b : Bool) → any_of (clash ts) (leaves p v) ≡ b → weighed_at T r (branch_in T r (index_of v)) (val v) ≡ weighed (sizes_of T) ts v (leaves p v)
      go true s = rw (kinds v, s) refl
      go false s = rw (kinds v, nodes v s, lacking-cells v, sums v, lacking-text v) refl

-- The tables that hold what an accepted list leaves judge a value as the definitions do.
pub judges : (T : Sheets) (cs : List Call) → Accepted (sizes_of T) cs → Holds T (trace start cs) → (r : ℕ) (p : Path) → Home (nodes_of (trace start cs)) r p
    → (v : Value) → weighed_at T r (branch_in T r (index_of v)) (val v) ≡ weighed (sizes_of T) (trace start cs) v (leaves p v)
judges T cs a h r p home v = weighed-same T (trace start cs) (accepted-bounded (sizes_of T) cs a) h r p home v
