-- A writer that stands for a list of calls is safe: the code stays within its tables.
use Rattle.std.proofs.Common.{◌≡◌, ℕ, suc, ◌+◌, ◌<◌, ◌≤◌, Bool, true, List, [], ◌∷◌, map, length, get_or, refl, subst, ⊎_elim, arith}
use native.Mathlib.Bridge.{le_prop}
use Rattle.std.proofs.ByRecursion.{All-weaker}
use Rattle.chain.specs.Chains.{Runs}
use Rattle.document.specs.Calls.{Value, Call}
use Rattle.document.specs.Nodes.{Path, root, ◌▹◌}
use Rattle.document.specs.Entries.{Entry, at}
use Rattle.document.specs.Places.{start}
use Rattle.document.specs.Trace.{trace, places_after}
use Rattle.document.specs.Records.{nodes_of}
use Rattle.document.specs.Verdict.{Accepted}
use Rattle.document.proofs.Between.{is_nil}
use Rattle.document.proofs.Allotting.{length-nodes, once}
use Rattle.document.proofs.Growth.{unmarked-childless, firsts-few, firsts-fewer}
use Rattle.nodes.specs.Stack.{top}
use Rattle.nodes.specs.Homes.{node_of, Home, is_child, places}
use Rattle.nodes.proofs.PlacesOf.{places-none, places-within, places-last}
use Rattle.nodes.proofs.Homes.{home-times}
use Rattle.nodes.proofs.Aiming.{stack-aims, aims-prop}
use Rattle.nodes.proofs.Seeking.{child-step, seek_found}
use Rattle.ser.specs.declared.desk.Desk.{Desk}
use Rattle.ser.specs.Moves.{Sheets, sheets, node, is_fresh, child_of}
use Rattle.ser.specs.Tables.{sizes_of}
use Rattle.ser.specs.Held.{is_held, slots_of, node_nexts, Holds}
use Rattle.ser.specs.Standing.{Stands}
use Rattle.ser.specs.Safe.{RowSafe, RowsSafe, Safe}
use Rattle.ser.proofs.Found.{fresh_at, children-course, length-slots}
use Rattle.ser.proofs.Bounded.{Bounded, accepted-bounded}

-- ---- the tables

-- No value is there where the record is without a mark.
no-values : (b : Bool) (vs : List Value) → b ≡ is_nil vs → b ≡ true → vs ≡ []
no-values b [] e t = refl
no-values b (v ∷ vs) e t = cc

module _ (T : Sheets) (ts : List Entry) (bounded : Bounded (sizes_of T) ts) (h : Holds T ts) where
  -- The node of a record without a mark has no value.
  bare-node : (r : ℕ) (p : Path) → Home (nodes_of ts) r p → is_fresh T r ≡ true → at p ts ≡ []
  bare-node r p home f = no-values (is_fresh T r) (at p ts) (fresh_at T r (at p ts) (h.holding.marks r p home)) f

  -- It has no child.
  no-child : (r : ℕ) (p : Path) → Home (nodes_of ts) r p → at p ts ≡ [] → (node T r).children.first ≡ 0
  no-child r p home e = subst (Runs (node_nexts T) (node T r).children.first) none-there (h.holding.children r p home).0
    where
      none-there : places (is_child p) 1 (nodes_of ts) ≡ []
      none-there = places-none (is_child p) 1 (nodes_of ts) root
          (λ j l c. let (s, q) = child-step p (get_or (nodes_of ts) j root) c in omega (arith, home-times (nodes_of ts) (suc j) (p ▹ s) (omega arith, omega arith, q), unmarked-childless ts p s e))

  -- The child of any index is a record in use, or 0.
  child-below : (r : ℕ) (p : Path) → Home (nodes_of ts) r p → (i : ℕ) → child_of T r i < T.used
  child-below r p home i = rw (children-course T ts h r p home i, h.holding.used)
      (⊎_elim (λ n. omega (arith, n.0)) (λ f. f.0)
      (seek_found (map (λ n. n.index) T.nodes) i (λ k. k < 1 + length (nodes_of ts)) (places (is_child p) 1 (nodes_of ts))
      (All-weaker (λ k. (1 ≤ k) × (k < 1 + length (nodes_of ts))) (λ k. k < 1 + length (nodes_of ts)) (λ k b. b.1) (places (is_child p) 1 (nodes_of ts)) (places-within (is_child p) 1 (nodes_of ts)))))

  -- The record of a node is safe.
  row-safe : (r : ℕ) (p : Path) → Home (nodes_of ts) r p → RowSafe T r
  row-safe r p home =
      record {
        sum = rw (h.holding.sums r p home) (bounded.sound p).short-of;
        tail = omega (arith, h.holding.used, (h.holding.children r p home).1, places-last (is_child p) 1 (nodes_of ts) (omega arith));
        last = omega (arith, h.holding.taken, (h.holding.cells r p home).1, places-last (is_held p) 1 (slots_of ts) (omega arith));
        room = λ f. omega (arith, h.holding.marked, h.holding.used, firsts-fewer ts bounded.seen p (omega (arith, once p ts, home-times (nodes_of ts) r p home)) (bare-node r p home f));
        bare = λ f. omega (arith, no-child r p home (bare-node r p home f));
        kin = child-below r p home;
      }

  -- The tables are safe.
  tables-safe : RowsSafe T
  tables-safe =
      let n = length-nodes ts in
      let c = length-slots ts in
      record {
        some-nodes = omega (arith, h.holding.used);
        some-cells = omega (arith, h.holding.taken);
        filled = omega (arith, h.holding.filled, bounded.letters);
        few-marked = omega (arith, h.holding.marked, h.holding.used, firsts-few ts bounded.seen);
        rows = λ r l u. row-safe r (node_of (nodes_of ts) r) (l, omega (arith, u, h.holding.used), refl);
      }

-- Tables that hold what an accepted list leaves are safe.
pub safe-rows : (T : Sheets) (cs : List Call) → Accepted (sizes_of T) cs → Holds T (trace start cs) → RowsSafe T
safe-rows T cs a h = tables-safe T (trace start cs) (accepted-bounded (sizes_of T) cs a) h

-- ---- the writer

-- A writer that stands for some calls is safe.
pub safe : (d : Desk) (cs : List Call) → Stands d cs → Safe d
safe d cs k =
    record {
      tables = safe-rows (sheets d.tables) cs k.accepted k.holds;
      depth = k.depth;
      places = omega (arith, k.places);
      aims = stack-aims (nodes_of (trace start cs)) d.tables.used k.holds.holding.used d.places (places_after start cs) k.opens;
    }

-- ---- two proofs of safety are one

-- Of one record.
row-prop : (T : Sheets) (r : ℕ) → IsProp (RowSafe T r)
row-prop T r a b = λ i. record {
  sum = le_prop a.sum b.sum i;
  tail = le_prop a.tail b.tail i;
  last = le_prop a.last b.last i;
  room = λ f. le_prop (a.room f) (b.room f) i;
  bare = λ f. le_prop (a.bare f) (b.bare f) i;
  kin = λ k. le_prop (a.kin k) (b.kin k) i;
}

-- Of the tables.
pub rows-prop : (T : Sheets) → IsProp (RowsSafe T)
rows-prop T a b = λ i. record {
  some-nodes = le_prop a.some-nodes b.some-nodes i;
  some-cells = le_prop a.some-cells b.some-cells i;
  filled = le_prop a.filled b.filled i;
  few-marked = le_prop a.few-marked b.few-marked i;
  rows = λ r l u. row-prop T r (a.rows r l u) (b.rows r l u) i;
}

-- Of the writer.
pub safe-prop : (d : Desk) → IsProp (Safe d)
safe-prop d a b = λ i. record {
  tables = rows-prop (sheets d.tables) a.tables b.tables i;
  depth = le_prop a.depth b.depth i;
  places = le_prop a.places b.places i;
  aims = λ l. aims-prop d.tables.used (top d.places) (a.aims l) (b.aims l) i;
}
