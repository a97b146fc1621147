-- What keeps the code within its tables: bounds alone, which follow from what the tables hold.
use Rattle.std.specs.Prelude.{◌≡◌, ℕ, ◌+◌, ◌<◌, ◌≤◌, true, length}
use Rattle.document.specs.Columns.{limit}
use Rattle.nodes.specs.Stack.{top}
use Rattle.nodes.specs.Ahead.{Aims}
use Rattle.ser.specs.declared.desk.Desk.{Desk}
use Rattle.ser.specs.Moves.{Sheets, sheets, node, is_fresh, child_of}

-- of one record in use: its sum, the ends of its chains, and, without a value, that it has no child and that there is room in the order of marking
pub record RowSafe (T : Sheets) (r : ℕ) : Type 0 where
  pub sum : (node T r).sum < limit
  pub tail : (node T r).children.last < T.used
  pub last : (node T r).cells.last < T.taken
  pub room : is_fresh T r ≡ true → T.marked + 1 < T.used
  pub bare : is_fresh T r ≡ true → (node T r).children.first ≤ 0
  pub kin : (i : ℕ) → child_of T r i < T.used

-- of the tables
pub record RowsSafe (T : Sheets) : Type 0 where
  pub some-nodes : 1 < T.used
  pub some-cells : 0 < T.taken
  pub filled : T.filled ≤ length T.text
  pub few-marked : T.marked < T.used
  pub rows : (r : ℕ) → 0 < r → r < T.used → RowSafe T r

-- of the tables and the places
pub record Safe (d : Desk) : Type 0 where
  pub tables : RowsSafe (sheets d.tables)
  pub depth : d.places.depth ≤ 32
  pub places : 32 ≤ length d.places.table
  pub aims : 0 < d.places.depth → Aims d.tables.used (top d.places)
