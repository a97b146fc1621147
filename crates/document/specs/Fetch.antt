-- Reading a node's columns, with the refusals that they can meet: 7 to 9 one after another, 10 after both length columns, then 8 and 11 for text bytes.
use Rattle.std.specs.Prelude.{ℕ, suc, ◌+◌, ◌-◌, min, Bool, true, cond, ◌&&◌, List, [], ◌∷◌, map as each, length, take, drop, replicate, nat_le, nat_lt, slice_index}
use Rattle.column.specs.Parsed.{Parsed, got, short, bad}
use Rattle.column.specs.Meaning.{Meaning}
use Rattle.utf8.specs.Passes.{passes}
use Rattle.document.specs.declared.refusals.Refusal.{Refusal}
use Rattle.document.specs.declared.refusals.Refusal.TheVariants as refusals
use Rattle.document.specs.Calls.{width, total, Kind, SCALAR, TEXT, SEQ, MAP, ENUM, UNIT, TUPLE, Cell, number, letters}
use Rattle.document.specs.Columns.{sum, limit}

-- the free slots and the input's next bytes
pub record Supply : Type 0 where
  pub slots : ℕ
  pub input : List ℕ

-- a supply
abbrev pub supply : ℕ → List ℕ → Supply
supply s bs = record { slots = s; input = bs }

-- what was read, and what is left; or a refusal
pub data Fetched (X : Type 0) : Type 0 where
  fetched : X → Supply → Fetched X
  denied : Refusal → Fetched X

-- a refusal ends the reading
abbrev pub and_then : {X Y : Type 0} → Fetched X → (X → Supply → Fetched Y) → Fetched Y
and_then (fetched x u) f = f x u
and_then (denied r) f = denied r

-- the column with this number was read: its fault tells the layer that found it, counted up to 65,535
abbrev pub from : ℕ → ℕ → Supply → Parsed (List ℕ) → Fetched (List ℕ)
from column n u (got vs used) = fetched vs (supply (u.slots - n) (drop used u.input))
from column n u (short depth) = denied (refusals.Short (min depth 65535) column)
from column n u (bad depth) = denied (refusals.Bad (min depth 65535) column)

-- a column of n values takes n slots
abbrev pub numbers : Meaning → ℕ → ℕ → ℕ → Supply → Fetched (List ℕ)
numbers col column w n u = cond (nat_le n u.slots) (from column n u (col.parse w n u.input)) (denied refusals.Cells)

-- the lengths from the two columns: the second has one for each 255 of the first, and any number may stand there
abbrev pub beyond : List ℕ → ℕ
beyond ss = total (λ s. cond (nat_lt s 255) 0 1) ss

-- the lengths from the two columns, in order
abbrev pub merged : List ℕ → List ℕ → List ℕ
merged [] ls = []
merged (s ∷ ss) ls = cond (nat_lt s 255) (s ∷ merged ss ls) (slice_index ls 0 ∷ merged ss (drop 1 ls))

-- the sum of the lengths is below the limit
abbrev pub limited : List ℕ → Supply → Fetched (List ℕ)
limited ns u = cond (nat_lt (sum ns) limit) (fetched ns u) (denied refusals.Sum)

-- a node's lengths
abbrev pub lengths : Meaning → ℕ → ℕ → Supply → Fetched (List ℕ)
lengths col column n u =
    and_then (numbers col column 8 n u) (λ ss t. and_then (numbers col (suc column) 64 (beyond ss) t) (λ ls r. limited (merged ss ls) r))

-- texts of these lengths, one after another
abbrev pub cut : List ℕ → List ℕ → List (List ℕ)
cut [] bs = []
cut (n ∷ ns) bs = take n bs ∷ cut ns (drop n bs)

-- whether all texts are well-formed
abbrev pub all_pass : List (List ℕ) → Bool
all_pass [] = true
all_pass (t ∷ ts) = passes t && all_pass ts

-- every text is tested
abbrev pub tested : List (List ℕ) → Supply → Fetched (List (List ℕ))
tested ts u = cond (all_pass ts) (fetched ts u) (denied refusals.Text)

-- the text bytes are a third column, of layer 0
abbrev pub parted : ℕ → List ℕ → Supply → Fetched (List (List ℕ))
parted column ns u =
    cond (nat_le (sum ns) (length u.input)) (tested (cut ns u.input) (supply u.slots (drop (sum ns) u.input))) (denied (refusals.Short 0 (2 + column)))

-- a node's texts
abbrev pub texts : Meaning → ℕ → ℕ → Supply → Fetched (List (List ℕ))
texts col column n u = and_then (lengths col column n u) (parted column)

-- numbers as cells
abbrev pub as_numbers : List ℕ → Supply → Fetched (List Cell)
as_numbers ns u = fetched (each number ns) u

-- texts as cells
abbrev pub as_letters : List (List ℕ) → Supply → Fetched (List Cell)
as_letters ts u = fetched (each letters ts) u

-- the cells of a node of this kind with n values, its first column having this number
unfoldable pub fetch : Meaning → ℕ → Kind → ℕ → Supply → Fetched (List Cell)
fetch col column (SCALAR k) n u = and_then (numbers col column (width k) n u) as_numbers
fetch col column TEXT n u = and_then (texts col column n u) as_letters
fetch col column SEQ n u = and_then (lengths col column n u) as_numbers
fetch col column MAP n u = and_then (lengths col column n u) as_numbers
fetch col column ENUM n u = and_then (numbers col column 8 n u) as_numbers
fetch col column UNIT n u = fetched (replicate n (number 0)) u
fetch col column (TUPLE m) n u = fetched (replicate n (number m)) u

-- how many columns a node of this kind has
abbrev pub columns_of : Kind → ℕ
columns_of (SCALAR k) = 1
columns_of TEXT = 3
columns_of SEQ = 2
columns_of MAP = 2
columns_of ENUM = 1
columns_of UNIT = 0
columns_of (TUPLE n) = 0
