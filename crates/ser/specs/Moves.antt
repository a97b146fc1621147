-- What the writer does to its tables, one move at a time. These mirror the code; what they come to is said in Holds.
use Rattle.std.specs.Prelude.{ℕ, zero, suc, ◌+◌, Bool, cond, List, map as each, length, vec_items, Option, ◌==◌, slice_index_or}
use Rattle.std.specs.declared.option.Option.TheVariants as options
use Rattle.column.specs.Interface.{overlaid}
use Rattle.chain.specs.declared.Chain.{Chain}
use Rattle.chain.specs.Chains.{adjust, appended, longer, course}
use Rattle.document.specs.Calls.{scalar, text, unit, none, some, variant, seq, map, tuple, Call, val, end}
use Rattle.document.specs.Tables.{length_cells}
use Rattle.nodes.specs.declared.marks.Mark.{Mark}
use Rattle.nodes.specs.declared.marks.Mark.TheVariants as marks
use Rattle.nodes.specs.Marks.{mark_number, family_of}
use Rattle.nodes.specs.Children.{seek}
use Rattle.ser.specs.declared.records.Node.{Node}
use Rattle.ser.specs.declared.records.Cell.{Cell}
use Rattle.ser.specs.declared.loads.Load.{Load}
use Rattle.ser.specs.declared.store.Tables.{Tables}
use Rattle.ser.specs.Brings.{marking, loading, branching, is_lone}

-- ---- records

-- a chain of no record
abbrev pub no_chain : Chain
no_chain = record { first = 0; last = 0 }

-- a record of a child with this index, without a value
abbrev pub child : ℕ → Node
child i = record { mark = marks.Unmarked; sum = 0; index = i; next = 0; children = no_chain; cells = no_chain; order = 0 }

abbrev pub blank_node : Node
blank_node = child 0

abbrev pub blank_cell : Cell
blank_cell = record { value = 0; start = 0; next = 0 }

-- a record with another field
abbrev pub with_next : Node → ℕ → Node
with_next n k = record n { next = k }

abbrev pub with_mark : Mark → Node → Node
with_mark m n = record n { mark = m }

abbrev pub with_sum : ℕ → Node → Node
with_sum x n = record n { sum = n.sum + x }

abbrev pub with_children : Chain → Node → Node
with_children c n = record n { children = c }

abbrev pub with_cells : Chain → Node → Node
with_cells c n = record n { cells = c }

abbrev pub with_order : ℕ → Node → Node
with_order r n = record n { order = r }

abbrev pub cell_with_next : Cell → ℕ → Cell
cell_with_next c k = record c { next = k }

-- ---- tables

-- the tables as lists
pub record Sheets : Type 0 where
  pub nodes : List Node
  pub cells : List Cell
  pub text : List ℕ
  pub used : ℕ
  pub taken : ℕ
  pub filled : ℕ
  pub marked : ℕ

abbrev pub sheets : Tables → Sheets
sheets t = record { nodes = vec_items t.nodes; cells = vec_items t.cells; text = vec_items t.text; used = t.used; taken = t.taken; filled = t.filled; marked = t.marked }

-- a node's record, a blank one past the table's end
abbrev pub node : Sheets → ℕ → Node
node T r = slice_index_or T.nodes r blank_node

abbrev pub cell_at : Sheets → ℕ → Cell
cell_at T k = slice_index_or T.cells k blank_cell

-- a node without a value
abbrev pub is_fresh : Sheets → ℕ → Bool
is_fresh T r = mark_number (node T r).mark == 0

-- a new record, as the last child of r
abbrev pub spawned : ℕ → ℕ → Sheets → Sheets
spawned r i T =
    record T {
      nodes = adjust (with_children (longer (node T r).children T.used)) r (appended with_next T.nodes (node T r).children.last T.used (child i));
      used = T.used + 1;
    }

-- .. and so many
abbrev pub grown : ℕ → ℕ → Sheets → Sheets
grown r zero T = T
grown r (suc n) T = spawned r n (grown r n T)

-- r is marked, and is next in the order of marking
abbrev pub named : ℕ → Mark → Sheets → Sheets
named r m T =
    record T { nodes = adjust (with_order r) (T.marked + 1) (adjust (with_mark m) r T.nodes); marked = T.marked + 1 }

-- a first value marks its node, whose children come with it
abbrev pub touched : ℕ → Mark → Sheets → Sheets
touched r m T = cond (is_fresh T r) (grown r (family_of m) (named r m T)) T

-- a value goes to a cell, as the last of r's; the tables are charged the cells that it takes
abbrev pub celled : ℕ → Load → Sheets → Sheets
celled r x T =
    record T {
      nodes = adjust (with_cells (longer (node T r).cells T.taken)) r (adjust (with_sum x.extent) r T.nodes);
      cells = appended cell_with_next T.cells (node T r).cells.last T.taken (record { value = x.value; start = T.filled; next = 0 });
      taken = T.taken + length_cells x.extent;
    }

-- what a node keeps of a call
abbrev pub kept : ℕ → Option Load → Sheets → Sheets
kept r options.None T = T
kept r (options.Some x) T = celled r x T

-- text bytes go to the text table
abbrev pub written : List ℕ → Sheets → Sheets
written bs T = record T { text = overlaid T.filled bs T.text; filled = T.filled + length bs }

-- the letters of a call
abbrev pub lettered : Call → Sheets → Sheets
lettered (val (scalar k b)) T = T
lettered (val (text bs)) T = written bs T
lettered (val unit) T = T
lettered (val none) T = T
lettered (val some) T = T
lettered (val (variant i)) T = T
lettered (val (seq n)) T = T
lettered (val (map n)) T = T
lettered (val (tuple n)) T = T
lettered end T = T

-- ---- the child of an index

-- the child of r with the index
abbrev pub child_of : Sheets → ℕ → ℕ → ℕ
child_of T r i = seek (each (λ n. n.index) T.nodes) i (course (each (λ n. n.next) T.nodes) (node T r).children.first)

-- the child of an index that a call has
abbrev pub branch_in : Sheets → ℕ → Option ℕ → ℕ
branch_in T r options.None = 0
branch_in T r (options.Some i) = child_of T r i

-- a new index gets a record; k is its child as it was found
abbrev pub branched : ℕ → ℕ → Option ℕ → Sheets → Sheets
branched r k options.None T = T
branched r k (options.Some i) T = cond (k == 0) (spawned r i T) T

-- the record of the child then
abbrev pub branch_then : ℕ → Option ℕ → Sheets → ℕ
branch_then k options.None T = k
branch_then k (options.Some i) T = cond (k == 0) T.used k

-- ---- a call

-- one value at r
abbrev pub put : ℕ → ℕ → Call → Sheets → Sheets
put r k c T = lettered c (kept r (loading c) (branched r k (branching c) (touched r (marking c) T)))

-- the child of its index
abbrev pub put_child : ℕ → ℕ → Call → Sheets → ℕ
put_child r k c T = branch_then k (branching c) (touched r (marking c) T)

-- a `none` is followed by its unit
abbrev pub unit_after : Call → ℕ → Sheets → Sheets
unit_after (val (scalar k b)) r T = T
unit_after (val (text bs)) r T = T
unit_after (val unit) r T = T
unit_after (val none) r T = touched r marks.Unit T
unit_after (val some) r T = T
unit_after (val (variant i)) r T = T
unit_after (val (seq n)) r T = T
unit_after (val (map n)) r T = T
unit_after (val (tuple n)) r T = T
unit_after end r T = T

-- all that a call does to the tables at r, and the child of its index then
abbrev pub entered : ℕ → ℕ → Call → Sheets → Sheets
entered r k c T = cond (is_lone c) T (unit_after c (put_child r k c T) (put r k c T))

abbrev pub entered_child : ℕ → ℕ → Call → Sheets → ℕ
entered_child r k c T = cond (is_lone c) k (put_child r k c T)
