-- Which bytes are well-formed UTF-8: table 3-7 of the Unicode Standard, "Well-Formed UTF-8 Byte Sequences".
use Rattle.std.specs.Prelude.{ℕ, ◌≤◌, List, [], ◌∷◌, ◌++◌}
use Rattle.std.specs.List.{ContainsAt as Has}

-- the bytes from low to high, both included
pub record Range : Type 0 where
  pub low : ℕ
  pub high : ℕ

-- a row of the table: the range of the first byte of a sequence, of its second, and so on
abbrev pub Row : Type 0
Row = List Range

infix 70 ◌‥◌
-- a range, written as low ‥ high
abbrev pub ◌‥◌ : ℕ → ℕ → Range
a ‥ b = record { low = a; high = b }

-- the nine rows, in the order in which the standard prints them
abbrev pub table : List Row
table =
    (0x00 ‥ 0x7f ∷ [])
    ∷ (0xc2 ‥ 0xdf ∷ 0x80 ‥ 0xbf ∷ [])
    ∷ (0xe0 ‥ 0xe0 ∷ 0xa0 ‥ 0xbf ∷ 0x80 ‥ 0xbf ∷ [])
    ∷ (0xe1 ‥ 0xec ∷ 0x80 ‥ 0xbf ∷ 0x80 ‥ 0xbf ∷ [])
    ∷ (0xed ‥ 0xed ∷ 0x80 ‥ 0x9f ∷ 0x80 ‥ 0xbf ∷ [])
    ∷ (0xee ‥ 0xef ∷ 0x80 ‥ 0xbf ∷ 0x80 ‥ 0xbf ∷ [])
    ∷ (0xf0 ‥ 0xf0 ∷ 0x90 ‥ 0xbf ∷ 0x80 ‥ 0xbf ∷ 0x80 ‥ 0xbf ∷ [])
    ∷ (0xf1 ‥ 0xf3 ∷ 0x80 ‥ 0xbf ∷ 0x80 ‥ 0xbf ∷ 0x80 ‥ 0xbf ∷ [])
    ∷ (0xf4 ‥ 0xf4 ∷ 0x80 ‥ 0x8f ∷ 0x80 ‥ 0xbf ∷ 0x80 ‥ 0xbf ∷ [])
    ∷ []

-- the byte b lies in the range
abbrev pub In : Range → ℕ → Type 0
In range b = (range.low ≤ b) × (b ≤ range.high)

-- the bytes are as many as the row's ranges, and each lies in its range
abbrev pub Fits : Row → List ℕ → Type 0
Fits [] [] = Unit {0}
Fits [] (b ∷ bs) = ⊥
Fits (range ∷ ranges) [] = ⊥
Fits (range ∷ ranges) (b ∷ bs) = In range b × Fits ranges bs

-- well-formed: no bytes at all, or bytes that fit a row of the table, and then well-formed ones
pub data WellFormed : List ℕ → Type 0 where
  empty : WellFormed []
  more : (row : Row) (bytes rest : List ℕ) → Has table row → Fits row bytes → WellFormed rest → WellFormed (bytes ++ rest)
