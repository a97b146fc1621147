-- The table as a test that computes.
use Rattle.std.specs.Prelude.{ℕ, zero, suc, Bool, true, false, ◌&&◌, ◌||◌, List, [], ◌∷◌, length, drop, nat_le}
use Rattle.utf8.specs.Table.{Range, Row, table}

-- whether the byte b lies in the range
abbrev pub in_range : Range → ℕ → Bool
in_range range b = nat_le range.low b && nat_le b range.high

-- whether the text begins with bytes that fit the row
abbrev pub begins : Row → List ℕ → Bool
begins [] text = true
begins (range ∷ ranges) [] = false
begins (range ∷ ranges) (b ∷ bs) = in_range range b && begins ranges bs

-- whether the test holds of one of the rows
abbrev pub some_row : (Row → Bool) → List Row → Bool
some_row test [] = false
some_row test (row ∷ rows) = test row || some_row test rows

-- whether the text is well-formed in at most n sequences
unfoldable pub passes_in : List ℕ → ℕ → Bool
passes_in [] n = true
passes_in (b ∷ bs) zero = false
passes_in (b ∷ bs) (suc n) = some_row (λ row. begins row (b ∷ bs) && passes_in (drop (length row) (b ∷ bs)) n) table

-- whether the text is well-formed: it has no more sequences than bytes
unfoldable pub passes : List ℕ → Bool
passes text = passes_in text (length text)
