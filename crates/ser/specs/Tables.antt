-- The verdict on a value at a record of the tables: the same tests as the definitions', in the same order, asked of the tables.
use Rattle.std.specs.Prelude.{ℕ, ◌+◌, min, Bool, false, cond, not, ◌&&◌, ◌||◌, [], ◌∷◌, length, Option, Result, ◌==◌, nat_le, nat_lt}
use Rattle.std.specs.declared.option.Option.TheVariants as options
use Rattle.document.specs.declared.refusals.Refusal.{Refusal}
use Rattle.document.specs.declared.refusals.Refusal.TheVariants as refusals
use Rattle.document.specs.Calls.{scalar, text, unit, none, some, variant, seq, map, tuple, Call, val, end}
use Rattle.document.specs.Columns.{limit}
use Rattle.document.specs.Verdict.{Sizes, first_of, high_index, ill_formed}
use Rattle.nodes.specs.declared.marks.Mark.{Mark}
use Rattle.nodes.specs.declared.marks.Mark.TheVariants as marks
use Rattle.nodes.specs.Marks.{mark_number, family_of}
use Rattle.ser.specs.Brings.{value_in, marking, loading, load_cells, load_extent, letters_in, branching, is_lone}
use Rattle.ser.specs.Moves.{Sheets, node, is_fresh}

-- the lengths of the tables
abbrev pub sizes_of : Sheets → Sizes
sizes_of T = record { nodes = length T.nodes; cells = length T.cells; text = length T.text }

-- a record that is marked otherwise
abbrev pub is_other : Sheets → ℕ → Mark → Bool
is_other T r m = not (is_fresh T r) && not (mark_number (node T r).mark == mark_number m)

-- a `none` whose child of index 0 is no unit's
abbrev pub no_unit : Sheets → ℕ → Call → Bool
no_unit T k (val (scalar s b)) = false
no_unit T k (val (text bs)) = false
no_unit T k (val unit) = false
no_unit T k (val none) = not (k == 0) && is_other T k marks.Unit
no_unit T k (val some) = false
no_unit T k (val (variant i)) = false
no_unit T k (val (seq n)) = false
no_unit T k (val (map n)) = false
no_unit T k (val (tuple n)) = false
no_unit T k end = false

-- the call is of another kind than its node
abbrev pub strange_at : Sheets → ℕ → ℕ → Call → Bool
strange_at T r k c = not (is_lone c) && (is_other T r (marking c) || no_unit T k c)

-- a child that is new
abbrev pub new_child : ℕ → Option ℕ → ℕ
new_child k options.None = 0
new_child k (options.Some i) = cond (k == 0) 1 0

-- the node records that the call takes
abbrev pub nodes_for : Sheets → ℕ → ℕ → Call → ℕ
nodes_for T r k c = cond (is_lone c) 0 (cond (is_fresh T r) (family_of (marking c)) 0) + new_child k (branching c)

abbrev pub lacks_nodes : Sheets → ℕ → Bool
lacks_nodes T more = nat_lt (min (length T.nodes) 65536) (T.used + more)

abbrev pub lacks_cells : Sheets → ℕ → Bool
lacks_cells T more = not (more == 0) && nat_lt (min (length T.cells) 1048576) (T.taken + more)

abbrev pub lacks_text : Sheets → ℕ → Bool
lacks_text T more = nat_lt (min (length T.text) 16777216) (T.filled + more)

-- the lengths at r would come to the limit
abbrev pub is_too_long : Sheets → ℕ → ℕ → Bool
is_too_long T r more = nat_le limit ((node T r).sum + more)

-- the first refusal whose test holds, or acceptance; k is the child of the call's index, as it was found
unfoldable pub weighed_at : Sheets → ℕ → ℕ → Call → Result (Unit {0}) Refusal
weighed_at T r k c =
    first_of
    ((strange_at T r k c, refusals.Kind)
    ∷ (high_index (value_in c), refusals.Index)
    ∷ (lacks_nodes T (nodes_for T r k c), refusals.Nodes)
    ∷ (lacks_cells T (load_cells (loading c)), refusals.Cells)
    ∷ (is_too_long T r (load_extent (loading c)), refusals.Sum)
    ∷ (ill_formed (value_in c), refusals.Text)
    ∷ (lacks_text T (length (letters_in c)), refusals.TextTable)
    ∷ []
    )
