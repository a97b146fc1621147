-- The columns of a node, as bytes, over any column kind.
use Rattle.std.specs.Prelude.{ℕ, cond, List, [], ◌∷◌, ◌++◌, map as each, nat_lt}
use Rattle.column.specs.Meaning.{Meaning}
use Rattle.document.specs.Calls.{width, total, Kind, SCALAR, TEXT, SEQ, MAP, ENUM, UNIT, TUPLE, Cell, num, str}

-- a length below 255 stands in the first length column, and 255 for any other ..
abbrev pub short : ℕ → ℕ
short n = cond (nat_lt n 255) n 255

-- .. which stands in the second
abbrev pub longs : List ℕ → List ℕ
longs [] = []
longs (n ∷ ns) = cond (nat_lt n 255) (longs ns) (n ∷ longs ns)

-- the sum of numbers
abbrev pub sum : List ℕ → ℕ
sum ns = total (λ n. n) ns

-- the sum of a node's lengths stays below this
abbrev pub limit : ℕ
limit = 2251799813685247

-- lists one after another
abbrev pub joined : List (List ℕ) → List ℕ
joined [] = []
joined (t ∷ ts) = t ++ joined ts

-- lengths, as two columns
abbrev pub length_bytes : Meaning → List ℕ → List ℕ
length_bytes col ns = col.image 8 (each short ns) ++ col.image 64 (longs ns)

-- a node's bytes, by its kind: a text's lengths and then all text bytes; a unit and a tuple have none
unfoldable pub columns : Meaning → Kind → List Cell → List ℕ
columns col (SCALAR k) cs = col.image (width k) (each num cs)
columns col TEXT cs = length_bytes col (each num cs) ++ joined (each str cs)
columns col SEQ cs = length_bytes col (each num cs)
columns col MAP cs = length_bytes col (each num cs)
columns col ENUM cs = col.image 8 (each num cs)
columns col UNIT cs = []
columns col (TUPLE n) cs = []
