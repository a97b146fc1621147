-- What the tables hold, as it is found there: a node's mark, its children and how many cells are taken.
use Rattle.std.proofs.Common.{◌≡◌, ℕ, zero, suc, ◌<◌, ◌≤◌, Bool, true, false, cond, ◌⊎◌, List, [], ◌∷◌, ◌++◌, map, length, refl, ap, ◌∙◌, arith, length-append}
use Rattle.std.specs.List.{AllByRecursion}
use Rattle.std.proofs.Math.ListN.{get_or-map}
use Rattle.std.proofs.lemmas.Bool.{ne_eqb}
use Rattle.std.proofs.lemmas.Bool.Decides.{nat_tests}
use Rattle.chain.proofs.Courses.{runs-course}
use Rattle.document.specs.Calls.{Value, scalar, text, unit, none, some, variant, seq, map as mapping, tuple, Kind, ENUM, kind}
use Rattle.document.specs.Nodes.{Path, ◌▹◌, Step, elem, key, value, field, alt, alike}
use Rattle.document.specs.Entries.{Entry, at}
use Rattle.document.specs.Tables.{cells, cells_of, length_cells, Branch, unbranched, branch, branch_of}
use Rattle.document.specs.Records.{had, new_child, marked, nodes_of, times}
use Rattle.document.proofs.Paths.{same_self}
use Rattle.document.proofs.Between.{is_nil}
use Rattle.document.proofs.Allotting.{times-append, spawned, times-spawned}
use Rattle.nodes.specs.Marks.{mark_number, mark_of, mark_at}
use Rattle.nodes.specs.Children.{seek}
use Rattle.nodes.specs.Homes.{Home, is_child, places}
use Rattle.nodes.proofs.Kin.{mark-number}
use Rattle.nodes.proofs.Seeking.{seek-child}
use Rattle.ser.specs.declared.records.Node.{Node}
use Rattle.ser.specs.Moves.{Sheets, node, blank_node, is_fresh, child_of}
use Rattle.ser.specs.Held.{slotted, slots_of, node_nexts, Holds}

-- ---- its mark

-- A node is without a mark where it is without a value.
pub fresh_at : (T : Sheets) (r : ℕ) (vs : List Value) → (node T r).mark ≡ mark_at vs → is_fresh T r ≡ is_nil vs
fresh_at T r [] e = rw e refl
fresh_at T r (v ∷ vs) e = rw e (ne_eqb (mark_number (mark_of (kind v))) 0 (λ z. omega (arith, mark-number (kind v))))

-- ---- its children

-- The walk over a node's children goes to exactly those nodes that are its children.
pub children-course : (T : Sheets) (ts : List Entry) → Holds T ts → (r : ℕ) (p : Path) → Home (nodes_of ts) r p → (i : ℕ) → child_of T r i ≡ seek (map (λ n. n.index) T.nodes) i (places (is_child p) 1 (nodes_of ts))
children-course T ts h r p home i = ap (seek (map (λ n. n.index) T.nodes) i) (runs-course (node_nexts T) (node T r).children.first (places (is_child p) 1 (nodes_of ts)) (h.holding.children r p home).0)

-- Values of an ENUM node bring no child but branches.
spawned-enum : (r : Path) (s : Step) → ((i : ℕ) → alike s (alt i) ≡ false) → (vs us : List Value) → AllByRecursion (λ u. kind u ≡ ENUM) us → times (r ▹ s) (spawned r vs us) ≡ 0
unfolding spawned
spawned-enum r s off vs [] h = refl
spawned-enum r s off vs (u ∷ us) (k, h) =
    omega (arith, times-append (r ▹ s) (marked vs r (kind u) ++ new_child (had (λ i. false) vs) r (branch_of u)) (spawned r (vs ++ u ∷ []) us), times-append (r ▹ s) (marked vs r (kind u)) (new_child (had (λ i. false) vs) r (branch_of u)), by-mark vs (kind u) k, by_index (branch_of u), spawned-enum r s off (vs ++ u ∷ []) us h)
  where
    by-mark : (vs : List Value) (K : Kind) → K ≡ ENUM → times (r ▹ s) (marked vs r K) ≡ 0
    by-mark [] K e = rw e refl
    by-mark (v ∷ vs) K e = refl

    at-branch : (i : ℕ) (b : Bool) → times (r ▹ s) (cond b [] ((r ▹ alt i) ∷ [])) ≡ 0
    at-branch i true = refl
    at-branch i false = rw (same_self r, off i) refl

    by_index : (b : Branch) → times (r ▹ s) (new_child (had (λ i. false) vs) r b) ≡ 0
    by_index unbranched = refl
    by_index (branch i) = at-branch i (had (λ i. false) vs i)

-- A child of an ENUM node is a branch.
pub child-branch : (ts : List Entry) (p : Path) (s : Step) → AllByRecursion (λ u. kind u ≡ ENUM) (at p ts) → 1 ≤ times (p ▹ s) (nodes_of ts) → (i : ℕ) × (s ≡ alt i)
child-branch ts p s k h = go s (λ off. omega (arith, times-spawned p s [] ts, spawned-enum p s off [] (at p ts) k))
  where
    go : (s : Step) → (((i : ℕ) → alike s (alt i) ≡ false) → ⊥) → (i : ℕ) × (s ≡ alt i)
    go elem not_so = absurd (not_so (λ i. refl))
    go key not_so = absurd (not_so (λ i. refl))
    go value not_so = absurd (not_so (λ i. refl))
    go (field j) not_so = absurd (not_so (λ i. refl))
    go (alt i) not_so = (i, refl)

-- The child of an index at an ENUM node: there is none and the answer is 0, or it is that child's record.
pub child-found : (T : Sheets) (ts : List Entry) → Holds T ts → (r : ℕ) (p : Path) → Home (nodes_of ts) r p → AllByRecursion (λ u. kind u ≡ ENUM) (at p ts)
    → (i : ℕ) → ((times (p ▹ alt i) (nodes_of ts) ≡ 0) × (child_of T r i ≡ 0)) ⊎ Home (nodes_of ts) (child_of T r i) (p ▹ alt i)
child-found T ts h r p home k i = rw (children-course T ts h r p home i) (seek-child (map (λ n. n.index) T.nodes) (nodes_of ts) p
    (λ q s there. get_or-map (λ (n : Node). n.index) T.nodes q blank_node ∙ h.holding.indices q s there)
    (λ s there. child-branch ts p s k there) i)

-- ---- the cells

-- A length takes a cell, and two at most.
pub some-cells : (n : ℕ) → 0 < length_cells n
some-cells n = grind (arith, nat_tests)

length_two : (n : ℕ) → length_cells n ≤ 2
length_two n = grind (arith, nat_tests)

-- A value takes two cells at most.
cells-two : (v : Value) → cells v ≤ 2
cells-two (scalar k b) = omega arith
cells-two (text bs) = length_two (length bs)
cells-two unit = omega arith
cells-two none = omega arith
cells-two some = omega arith
cells-two (variant i) = omega arith
cells-two (seq n) = length_two n
cells-two (mapping n) = length_two n
cells-two (tuple n) = omega arith

-- The cells of a value are as many as it takes.
length-slotted : (e : Entry) (n : ℕ) → n ≤ 2 → length (slotted e n) ≡ n
length-slotted e zero l = refl
length-slotted e (suc zero) l = refl
length-slotted e (suc (suc zero)) l = refl
length-slotted e (suc (suc (suc n))) l = absurd (omega arith)

-- The cells that are taken are as many as the entries take.
pub length-slots : (ts : List Entry) → length (slots_of ts) ≡ cells_of ts
length-slots [] = refl
length-slots (e ∷ es) = omega (arith, length-append (slotted e (cells e.said)) (slots_of es), length-slotted e (cells e.said) (cells-two e.said), length-slots es)
