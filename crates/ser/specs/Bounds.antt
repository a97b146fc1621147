-- What the moves ask of the tables: bounds alone.
use Rattle.std.specs.Prelude.{◌≡◌, ℕ, ◌+◌, ◌^◌, ◌<◌, ◌≤◌, min, true, cond, length, Option}
use Rattle.document.specs.Calls.{Call}
use Rattle.nodes.specs.declared.marks.Mark.{Mark}
use Rattle.nodes.specs.Marks.{family_of}
use Rattle.ser.specs.declared.loads.Load.{Load}
use Rattle.ser.specs.Brings.{marking, loading, branching, load_cells, load_extent, letters_in}
use Rattle.ser.specs.Moves.{Sheets, node, is_fresh}
use Rattle.ser.specs.Tables.{new_child}

-- there is room for so many children of r
pub record GrowSafe (T : Sheets) (r n : ℕ) : Type 0 where
  pub within : r < T.used
  pub nodes : T.used + n ≤ min (length T.nodes) 65536
  pub tail : (node T r).children.last < T.used

-- .. for a mark at r, in the order of marking, and for the children that come with it
pub record TouchSafe (T : Sheets) (r : ℕ) (m : Mark) : Type 0 where
  pub within : r < T.used
  pub nodes : T.used ≤ length T.nodes
  pub order : is_fresh T r ≡ true → T.marked + 1 < length T.nodes
  pub family : is_fresh T r ≡ true → GrowSafe T r (family_of m)

-- .. for the child of an index; k is its record as it was found
pub record BranchSafe (T : Sheets) (r k : ℕ) (i : Option ℕ) : Type 0 where
  pub within : r < T.used
  pub nodes : T.used + new_child k i ≤ min (length T.nodes) 65536
  pub tail : (node T r).children.last < T.used

-- .. for a load in cells, and in the sum of r
pub record KeepSafe (T : Sheets) (r : ℕ) (x : Option Load) : Type 0 where
  pub within : r < length T.nodes
  pub some : 0 < T.taken
  pub cells : 0 < load_cells x → T.taken + load_cells x ≤ min (length T.cells) 1048576
  pub last : (node T r).cells.last < T.taken
  pub room : (node T r).sum + load_extent x < 2 ^ 64

-- .. for all that a call puts at r
pub record PutSafe (T : Sheets) (r k : ℕ) (c : Call) : Type 0 where
  pub touch : TouchSafe T r (marking c)
  pub tail : (node T r).children.last < T.used
  pub nodes : T.used + (cond (is_fresh T r) (family_of (marking c)) 0 + new_child k (branching c)) ≤ min (length T.nodes) 65536
  pub keep : KeepSafe T r (loading c)
  pub text : T.filled + length (letters_in c) ≤ min (length T.text) 16777216
