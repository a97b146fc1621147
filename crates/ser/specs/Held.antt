-- What the tables hold: every record in use, from what a list of calls leaves at the nodes.
use Rattle.std.specs.Prelude.{◌≡◌, ℕ, zero, suc, ◌+◌, ◌<◌, ◌≤◌, Bool, false, List, [], ◌∷◌, ◌++◌, map as each, length, take, drop, slice_index_or}
use Rattle.document.specs.Calls.{total, extent, cell, num, str}
use Rattle.document.specs.Nodes.{Path, root, same}
use Rattle.document.specs.Entries.{Entry, at}
use Rattle.document.specs.Bytes.{firsts}
use Rattle.document.specs.Tables.{cells, letters_of}
use Rattle.document.specs.Records.{nodes_of}
use Rattle.nodes.specs.declared.marks.Mark.{Mark}
use Rattle.nodes.specs.Marks.{mark_at}
use Rattle.nodes.specs.Homes.{Home, ordinal, is_child, places, Threads}
use Rattle.ser.specs.Moves.{Sheets, node, cell_at}

-- ---- which cell is whose

-- what stands in a cell: a value; or nothing, where a length of 255 or more is charged a second one
pub data Slot : Type 0 where
  holds : Entry → Slot
  spare : Slot

-- the cells of a value, by their number
abbrev pub slotted : Entry → ℕ → List Slot
slotted e zero = []
slotted e (suc zero) = holds e ∷ []
slotted e (suc (suc n)) = holds e ∷ spare ∷ []

-- the cells that are taken, in that order
abbrev pub slots_of : List Entry → List Slot
slots_of [] = []
slots_of (e ∷ es) = slotted e (cells e.said) ++ slots_of es

-- whether a cell is one of p's
abbrev pub is_held : Path → Slot → Bool
is_held p (holds e) = same e.node p
is_held p spare = false

-- ---- what the records hold

-- the next indices of the nodes, and of the cells
abbrev pub node_nexts : Sheets → List ℕ
node_nexts T = each (λ n. n.next) T.nodes

abbrev pub cell_nexts : Sheets → List ℕ
cell_nexts T = each (λ c. c.next) T.cells

-- a cell holds a value's number, and says where its letters stand
abbrev pub Keeps : Sheets → ℕ → Slot → Type 0
Keeps T k (holds e) =
    ((cell_at T k).value ≡ num (cell e.said))
    × ((cell_at T k).start + length (str (cell e.said)) ≤ T.filled)
    × (take (length (str (cell e.said))) (drop (cell_at T k).start T.text) ≡ str (cell e.said))
Keeps T k spare = Unit {0}

-- The tables hold: the nodes ns with these marks and sums; the cells sl; the order fs in which nodes were marked; so many letters.
pub record Holding (T : Sheets) (ns : List Path) (mark : Path → Mark) (sum : Path → ℕ) (sl : List Slot) (fs : List Path) (letters : ℕ) : Type 0 where
  pub used : T.used ≡ 1 + length ns
  pub taken : T.taken ≡ 1 + length sl
  pub filled : T.filled ≡ letters
  pub marked : T.marked ≡ length fs
  pub marks : (r : ℕ) (p : Path) → Home ns r p → (node T r).mark ≡ mark p
  pub sums : (r : ℕ) (p : Path) → Home ns r p → (node T r).sum ≡ sum p
  pub indices : (r : ℕ) (p : Path) → Home ns r p → (node T r).index ≡ ordinal p
  pub children : (r : ℕ) (p : Path) → Home ns r p → Threads (node_nexts T) (node T r).children (places (is_child p) 1 ns)
  pub cells : (r : ℕ) (p : Path) → Home ns r p → Threads (cell_nexts T) (node T r).cells (places (is_held p) 1 sl)
  pub values : (k : ℕ) → k < length sl → Keeps T (suc k) (slice_index_or sl k spare)
  pub order : (j : ℕ) → j < length fs → Home ns (node T (suc j)).order (slice_index_or fs j root)

-- The tables hold what the entries leave: each node's mark, sum, index, children and cells, each cell's value, and the order of first need.
pub record Holds (T : Sheets) (ts : List Entry) : Type 0 where
  pub holding : Holding T (nodes_of ts) (λ p. mark_at (at p ts)) (λ p. total extent (at p ts)) (slots_of ts) (firsts ts) (letters_of ts)
