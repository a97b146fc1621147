-- How what the tables hold grows with each entry.
use Rattle.std.proofs.Common.{◌≡◌, ℕ, zero, suc, ◌+◌, ◌<◌, ◌≤◌, Bool, true, false, cond, ◌≢◌, List, [], ◌∷◌, ◌++◌, length, get_or, sym, refl, ap, ◌∙◌, subst, append_assoc, append-nil, arith, length-append}
use Rattle.document.specs.Calls.{Kind, Value, cell, str, ENUM, scalar, text, unit, none, some, variant, seq, map, tuple, kind}
use Rattle.document.specs.Nodes.{Path, root, ◌▹◌, Step, alt, same}
use Rattle.document.specs.Entries.{Entry, at}
use Rattle.document.specs.Bytes.{firsts}
use Rattle.document.specs.Tables.{takes, cells, cells_of, records_of, letters_of, branch_of, unbranched}
use Rattle.document.specs.Records.{had, marked, added, added_by, nodes_of, times}
use Rattle.document.proofs.Paths.{same_self, same_true, total-append}
use Rattle.document.proofs.Between.{is_nil}
use Rattle.document.proofs.Allotting.{length-brought, length-added, times-firsts, times-append, spawned, times-spawned, spawned-alt}
-- an entry's records; the nodes that have a value, and the indices at a node, with one more entry
pub use Rattle.document.proofs.Allotting.{length-added-one, firsts-snoc, had-snoc}
use Rattle.std.specs.List.{AllByRecursion}
use Rattle.document.proofs.Sound.{OneKind}

-- ---- the nodes with a record

-- What two lists of entries add is what each adds, the second after the first.
pub added-append : (ts ds es : List Entry) → added_by ts (ds ++ es) ≡ added_by ts ds ++ added_by (ts ++ ds) es
added-append ts [] es = ap (λ xs. added_by xs es) (sym (append-nil ts))
added-append ts (d ∷ ds) es =
    ap (λ l. added ts d ++ l) (added-append (ts ++ d ∷ []) ds es)
    ∙ sym (append_assoc (added ts d) (added_by (ts ++ d ∷ []) ds) (added_by ((ts ++ d ∷ []) ++ ds) es))
    ∙ ap (λ xs. (added ts d ++ added_by (ts ++ d ∷ []) ds) ++ added_by xs es) (append_assoc ts (d ∷ []) ds)

-- More entries bring their nodes after those that have a record.
pub nodes-more : (ts es : List Entry) → nodes_of (ts ++ es) ≡ nodes_of ts ++ added_by ts es
nodes-more ts es = ap (λ l. root ∷ l) (added-append [] ts es)

-- One more entry brings its nodes after those that have a record.
pub nodes-snoc : (ts : List Entry) (e : Entry) → nodes_of (ts ++ e ∷ []) ≡ nodes_of ts ++ added ts e
nodes-snoc ts e = nodes-more ts (e ∷ []) ∙ ap (λ l. nodes_of ts ++ l) (append-nil (added ts e))

-- ---- what is taken of the tables

-- More entries take the records of the nodes that they add.
pub records-more : (ts es : List Entry) → records_of (ts ++ es) ≡ records_of ts + length (added_by ts es)
records-more ts es = omega (arith, length-added ts es)

-- The mark of a node takes records with the first value there, and none later.
pub length_marked : (vs : List Value) (p : Path) (K : Kind) → length (marked vs p K) ≡ cond (is_nil vs) (takes K) 0
length_marked [] p K = length-brought p K
length_marked (v ∷ vs) p K = refl

-- More entries take their own cells more.
pub cells-more : (ts es : List Entry) → cells_of (ts ++ es) ≡ cells_of ts + cells_of es
cells-more ts es = total-append (λ e. cells e.said) ts es

-- More entries take their own letters more.
pub letters-more : (ts es : List Entry) → letters_of (ts ++ es) ≡ letters_of ts + letters_of es
letters-more ts es = total-append (λ e. length (str (cell e.said))) ts es

-- ---- the children of a node

-- A branch has a record exactly where its index is among the values of its parent.
pub branch-there : (ts : List Entry) (p : Path) (i : ℕ) → times (p ▹ alt i) (nodes_of ts) ≡ cond (had (λ j. false) (at p ts) i) 1 0
branch-there ts p i = omega (arith, times-spawned p (alt i) [] ts, spawned-alt p i (at p ts))

-- No child of a node without a value has a record.
pub unmarked-childless : (ts : List Entry) (p : Path) (s : Step) → at p ts ≡ [] → times (p ▹ s) (nodes_of ts) ≡ 0
unfolding spawned
unmarked-childless ts p s e = omega (arith, times-spawned p s [] ts, ap (λ (vs : List Value). times (p ▹ s) (spawned p [] vs)) e)

-- A value of another kind than ENUM takes no index.
pub unbranched-of : (v : Value) → kind v ≢ ENUM → branch_of v ≡ unbranched
unbranched-of (scalar k b) h = refl
unbranched-of (text bs) h = refl
unbranched-of unit h = refl
unbranched-of none h = absurd (h refl)
unbranched-of some h = absurd (h refl)
unbranched-of (variant i) h = absurd (h refl)
unbranched-of (seq n) h = refl
unbranched-of (map n) h = refl
unbranched-of (tuple n) h = refl

-- Values of one kind other than ENUM add no index to those that there are.
pub had-kept : (seen : ℕ → Bool) (K : Kind) (vs : List Value) (i : ℕ) → K ≢ ENUM → AllByRecursion (λ v. kind v ≡ K) vs → had seen vs i ≡ seen i
had-kept seen K [] i h k = refl
had-kept seen K (v ∷ vs) i h k = rw (unbranched-of v (λ e. h (sym k.0 ∙ e))) (had-kept seen K vs i h k.1)

-- Values of one kind other than ENUM have no index.
pub no-branches : (v : Value) (vs : List Value) (i : ℕ) → OneKind (v ∷ vs) → kind v ≢ ENUM → had (λ j. false) (v ∷ vs) i ≡ false
no-branches v vs i k h = had-kept (λ j. false) (kind v) (v ∷ vs) i h (refl, k)

-- ---- how often a node stands in a list, and where

-- A node that stands in a list parts it in two.
pub parted : (p : Path) (ys : List Path) → 1 ≤ times p ys → (before : List Path) × (after : List Path) × (ys ≡ before ++ p ∷ after)
parted p [] h = absurd (omega (arith, h))
parted p (y ∷ ys) h = go (same p y) refl h (parted p ys)
  where
    go : (b : Bool) → same p y ≡ b → 1 ≤ cond b 1 0 + times p ys → (1 ≤ times p ys → (before : List Path) × (after : List Path) × (ys ≡ before ++ p ∷ after)) → (before : List Path) × (after : List Path) × (y ∷ ys ≡ before ++ p ∷ after)
    go true e k ih = ([], ys, ap (λ x. x ∷ ys) (sym (same_true p y e)))
    go false e k ih = let r = ih (omega (arith, k)) in (y ∷ r.0, r.1, ap (λ l. y ∷ l) r.2)

-- A list in which no node stands more often than in another is no longer.
pub fewer : (xs ys : List Path) → ((q : Path) → times q xs ≤ times q ys) → length xs ≤ length ys
fewer [] ys h = omega arith
fewer (x ∷ xs) ys h =
    let r = parted x ys (omega (arith, rw (same_self x) at (h x))) in
    let rest : length xs ≤ length (r.0 ++ r.1) = fewer xs (r.0 ++ r.1) (λ q. omega (arith, h q, ap (times q) r.2, times-append q r.0 (x ∷ r.1), times-append q r.0 r.1)) in
    omega (arith, ap length r.2, length-append r.0 (x ∷ r.1), length-append r.0 r.1)

-- A node is among the first ones no more often than among those with a record, if each that has a value has one.
first-there : (ts : List Entry) → ((q : Path) → at q ts ≢ [] → times q (nodes_of ts) ≡ 1) → (q : Path) → times q (firsts ts) ≤ times q (nodes_of ts)
first-there ts h q = go (at q ts) (times-firsts q ts) (h q)
  where
    go : (vs : List Value) → times q (firsts ts) ≡ cond (is_nil vs) 0 1 → (vs ≢ [] → times q (nodes_of ts) ≡ 1) → times q (firsts ts) ≤ times q (nodes_of ts)
    go [] e k = omega arith
    go (v ∷ vs) e k = let n : times q (nodes_of ts) ≡ 1 = k (λ z. cc) in omega arith

-- The nodes that have a value are no more than those with a record, if each of them has one.
pub firsts-few : (ts : List Entry) → ((q : Path) → at q ts ≢ [] → times q (nodes_of ts) ≡ 1) → length (firsts ts) ≤ length (nodes_of ts)
firsts-few ts h = fewer (firsts ts) (nodes_of ts) (first-there ts h)

-- They are fewer if some node with a record has no value.
pub firsts-fewer : (ts : List Entry) → ((q : Path) → at q ts ≢ [] → times q (nodes_of ts) ≡ 1) → (q : Path) → times q (nodes_of ts) ≡ 1 → at q ts ≡ [] → length (firsts ts) < length (nodes_of ts)
firsts-fewer ts h q one empty = fewer (q ∷ firsts ts) (nodes_of ts) (λ r. go r (same r q) refl (first-there ts h r))
  where
    go : (r : Path) (b : Bool) → same r q ≡ b → times r (firsts ts) ≤ times r (nodes_of ts) → cond b 1 0 + times r (firsts ts) ≤ times r (nodes_of ts)
    go r true e k =
        let none : times q (firsts ts) ≡ 0 = times-firsts q ts ∙ ap (λ vs. cond {A = ℕ} (is_nil vs) 0 1) empty in
        subst (λ (o : Path). 1 + times o (firsts ts) ≤ times o (nodes_of ts)) (sym (same_true r q e)) (omega arith)
    go r false e k = omega arith

-- What stands at a place of a list stands in it.
pub times-at : (ns : List Path) (i : ℕ) → i < length ns → 1 ≤ times (get_or ns i root) ns
times-at [] i h = omega (arith, h)
times-at (n ∷ ns) zero h = rw (same_self n) (omega arith)
times-at (n ∷ ns) (suc i) h = omega (arith, times-at ns i (omega arith))

-- What stands in a list stands at a place of it.
pub place_of : (p : Path) (ns : List Path) → 1 ≤ times p ns → (i : ℕ) × (i < length ns) × (get_or ns i root ≡ p)
place_of p [] h = absurd (omega (arith, h))
place_of p (n ∷ ns) h = go (same p n) refl h (place_of p ns)
  where
    go : (b : Bool) → same p n ≡ b → 1 ≤ cond b 1 0 + times p ns → (1 ≤ times p ns → (i : ℕ) × (i < length ns) × (get_or ns i root ≡ p)) → (i : ℕ) × (i < suc (length ns)) × (get_or (n ∷ ns) i root ≡ p)
    go true e k ih = (0, omega arith, sym (same_true p n e))
    go false e k ih = let r = ih (omega (arith, k)) in (suc r.0, omega (arith, r.1), r.2)

-- A node that stands in a list once at most stands at one place of it.
pub one_place : (p : Path) (ns : List Path) (i j : ℕ) → times p ns ≤ 1 → i < length ns → j < length ns → get_or ns i root ≡ p → get_or ns j root ≡ p → i ≡ j
one_place p [] i j h a b c d = omega (arith, a)
one_place p (n ∷ ns) zero zero h a b c d = refl
one_place p (n ∷ ns) zero (suc j) h a b c d = absurd (omega (arith, h, rw (c, same_self p) at h, rw d at (times-at ns j (omega arith))))
one_place p (n ∷ ns) (suc i) zero h a b c d = absurd (omega (arith, h, rw (d, same_self p) at h, rw c at (times-at ns i (omega arith))))
one_place p (n ∷ ns) (suc i) (suc j) h a b c d = ap suc (one_place p ns i j (omega arith) (omega arith) (omega arith) c d)
