-- What a list of calls takes of the tables.
use Rattle.std.specs.Prelude.{ℕ, ◌+◌, ◌-◌, min, Bool, true, false, cond, List, [], ◌∷◌, length, ◌==◌, nat_lt}
use Rattle.document.specs.Calls.{total, Kind, SCALAR, TEXT, SEQ, MAP, ENUM, UNIT, TUPLE, Value, scalar, text, unit, none, some, variant, seq, map, tuple, kind, cell, str}
use Rattle.document.specs.Entries.{Entry, at}
use Rattle.document.specs.Bytes.{firsts}

-- the cells, or slots, that a value takes: a length of 255 or more takes two
abbrev pub length_cells : ℕ → ℕ
length_cells n = cond (nat_lt n 255) 1 2

-- the cells, or slots, that a value takes
abbrev pub cells : Value → ℕ
cells (scalar k b) = 1
cells (text bs) = length_cells (length bs)
cells unit = 0
cells none = 1
cells some = 1
cells (variant i) = 1
cells (seq n) = length_cells n
cells (map n) = length_cells n
cells (tuple n) = 0

-- the cells of all entries
abbrev pub cells_of : List Entry → ℕ
cells_of es = total (λ e. cells e.said) es

-- the node records that marking a node takes
abbrev pub takes : Kind → ℕ
takes (SCALAR k) = 0
takes TEXT = 0
takes SEQ = 1
takes MAP = 2
takes ENUM = 0
takes UNIT = 0
takes (TUPLE n) = n

-- an index of an ENUM node, whose child takes a record when it is new
pub data Branch : Type 0 where
  unbranched : Branch
  branch : ℕ → Branch

-- the index that a value takes, if any
abbrev pub branch_of : Value → Branch
branch_of (scalar k b) = unbranched
branch_of (text bs) = unbranched
branch_of unit = unbranched
branch_of none = branch 0
branch_of some = branch 1
branch_of (variant i) = branch i
branch_of (seq n) = unbranched
branch_of (map n) = unbranched
branch_of (tuple n) = unbranched

-- a new index takes a record
abbrev pub new_branch : (ℕ → Bool) → Branch → ℕ
new_branch had unbranched = 0
new_branch had (branch i) = cond (had i) 0 1

-- the indices that there are then
abbrev pub with_branch : (ℕ → Bool) → Branch → ℕ → Bool
with_branch had unbranched j = had j
with_branch had (branch i) j = cond (i == j) true (had j)

-- how many indices among the values are new: had says which there are
abbrev pub branches : (ℕ → Bool) → List Value → ℕ
branches had [] = 0
branches had (v ∷ vs) = new_branch had (branch_of v) + branches (with_branch had (branch_of v)) vs

-- the records for the mark of a node
abbrev pub marks : List Value → ℕ
marks [] = 0
marks (v ∷ vs) = takes (kind v)

-- the records that a node takes
abbrev pub records_at : List Value → ℕ
records_at vs = marks vs + branches (λ i. false) vs

-- .. beside the root's own
abbrev pub records_of : List Entry → ℕ
records_of es = total (λ q. records_at (at q es)) (firsts es)

-- the text bytes
abbrev pub letters_of : List Entry → ℕ
letters_of es = total (λ e. length (str (cell e.said))) es

-- ---- how much of a table can be used: record 0 stays unused, and past its limit nothing is

-- node records
abbrev pub usable_nodes : ℕ → ℕ
usable_nodes size = min size 65536 - 1

-- cell records, or slots
abbrev pub usable_cells : ℕ → ℕ
usable_cells size = min size 1048576 - 1

-- text bytes
abbrev pub usable_text : ℕ → ℕ
usable_text size = min size 16777216
