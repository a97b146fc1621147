-- Text as Unicode scalar values, each encoded by the bit distribution of UTF-8: table 3-6 of the Unicode Standard.
use Rattle.std.specs.Prelude.{◌≡◌, ℕ, ◌+◌, ◌/◌, ◌%◌, ◌≤◌, cond, ◌⊎◌, List, [], ◌∷◌, nat_lt}
use Rattle.std.specs.List.{flat_map, AllByRecursion}

-- u is a scalar value: a code point that is no surrogate
abbrev pub Scalar : ℕ → Type 0
Scalar u = (u ≤ 0xd7ff) ⊎ ((0xe000 ≤ u) × (u ≤ 0x10ffff))

-- the bytes of a scalar value: 0xxxxxxx, or 110yyyyy 10xxxxxx,
-- or 1110zzzz 10yyyyyy 10xxxxxx, or 11110uuu 10uuzzzz 10yyyyyy 10xxxxxx
unfoldable pub encode : ℕ → List ℕ
encode u =
    cond (nat_lt u 0x80) (u ∷ [])
    (cond (nat_lt u 0x800) ((0xc0 + u / 0x40) ∷ (0x80 + u % 0x40) ∷ [])
    (cond (nat_lt u 0x10000) ((0xe0 + u / 0x1000) ∷ (0x80 + u / 0x40 % 0x40) ∷ (0x80 + u % 0x40) ∷ [])
    ((0xf0 + u / 0x40000) ∷ (0x80 + u / 0x1000 % 0x40) ∷ (0x80 + u / 0x40 % 0x40) ∷ (0x80 + u % 0x40) ∷ [])))

-- the text is the encodings of some scalar values, one after another
abbrev pub Encodes : List ℕ → Type 0
Encodes text = (us : List ℕ) × AllByRecursion Scalar us × (flat_map encode us ≡ text)
