-- What the reader does to its tables, one move at a time. These mirror the code; what they come to is said in Reads.
use Rattle.std.specs.Prelude.{ℕ, zero, suc, ◌+◌, Bool, false, cond, List, length, min, Option, ◌==◌, nat_lt, vec_items, slice_index_or, slice_set, map as each}
use Rattle.std.specs.declared.option.Option.TheVariants as options
use Rattle.chain.specs.declared.Chain.{Chain}
use Rattle.chain.specs.Chains.{adjust, appended, longer, course}
use Rattle.nodes.specs.declared.marks.Mark.TheVariants as marks
use Rattle.nodes.specs.Marks.{mark_number}
use Rattle.nodes.specs.Children.{seek}
use Rattle.de.specs.declared.records.Node.{Node}
use Rattle.de.specs.declared.store.Tables.{Tables}

-- ---- records

-- a chain of no record
abbrev pub no_chain : Chain
no_chain = record { first = 0; last = 0 }

-- the record of a node with so many values whose columns are not read yet
abbrev pub unread : ℕ → ℕ → Node
unread i n = record { mark = marks.Unmarked; count = n; done = 0; first = 0; text = 0; index = i; next = 0; children = no_chain }

-- the root has one value
abbrev pub root_node : Node
root_node = unread 0 1

-- a record with another next one
abbrev pub with_next : Node → ℕ → Node
with_next x k = record x { next = k }

-- .. and with another chain of children
abbrev pub with_children : Chain → Node → Node
with_children c x = record x { children = c }

-- ---- the tables

-- the tables as lists, and how far they are used
pub record Sheets : Type 0 where
  pub nodes : List Node
  pub slots : List ℕ
  pub used : ℕ
  pub taken : ℕ
  pub place : ℕ
  pub columns : ℕ

-- the code's tables so
abbrev pub sheets : Tables → Sheets
sheets t = record { nodes = vec_items t.nodes; slots = vec_items t.slots; used = t.used; taken = t.spot.taken; place = t.spot.place; columns = t.columns }

-- a node's record; past the table's end what a new reader has for the root
abbrev pub node : Sheets → ℕ → Node
node T r = slice_index_or T.nodes r root_node

-- no column of the node was read yet
abbrev pub is_fresh : Node → Bool
is_fresh x = mark_number x.mark == 0

-- too few node records
abbrev pub lacks_nodes : Sheets → ℕ → Bool
lacks_nodes T more = nat_lt (min (length T.nodes) 65536) (T.used + more)

-- .. for the child of a new index; k is its child as it was found
abbrev pub lacks_child : Sheets → ℕ → Option ℕ → Bool
lacks_child T k options.None = false
lacks_child T k (options.Some i) = cond (k == 0) (lacks_nodes T 1) false

-- a new record of a node with n values, as the last child of r
abbrev pub spawned : ℕ → ℕ → ℕ → Sheets → Sheets
spawned r i n T =
    record T {
      nodes = adjust (with_children (longer (node T r).children T.used)) r (appended with_next T.nodes (node T r).children.last T.used (unread i n));
      used = T.used + 1;
    }

-- .. and so many, each with n values
abbrev pub grown : ℕ → ℕ → ℕ → Sheets → Sheets
grown r zero n T = T
grown r (suc k) n T = spawned r k n (grown r k n T)

-- another record for r
abbrev pub replaced : ℕ → Node → Sheets → Sheets
replaced r x T = record T { nodes = slice_set T.nodes r x }

-- columns were read: so many slots are taken then, and the input is read so far
abbrev pub advanced : ℕ → ℕ → ℕ → Sheets → Sheets
advanced taken place more T = record T { taken = taken; place = place; columns = T.columns + more }

-- the child of r with the index, 0 where it has none
abbrev pub child_of : Sheets → Node → ℕ → ℕ
child_of T x i = seek (each (λ n. n.index) T.nodes) i (course (each (λ n. n.next) T.nodes) x.children.first)

-- the child of an index that an answer has
abbrev pub branch_in : Sheets → Node → Option ℕ → ℕ
branch_in T x options.None = 0
branch_in T x (options.Some i) = child_of T x i
