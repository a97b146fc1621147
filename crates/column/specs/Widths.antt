-- Widths, and the values that have a place in a column of a width.
use Rattle.std.specs.Prelude.{ℕ, ◌^◌, ◌<◌, Bool, true, ◌&&◌, ◌||◌, List, [], ◌∷◌, ◌==◌, nat_lt}
use Rattle.std.specs.List.{AllByRecursion}

-- the widths that a column can have, in bits
abbrev pub listed : ℕ → Bool
listed w = w == 1 || (w == 8 || (w == 16 || (w == 32 || w == 64)))

-- each value fits the width
abbrev pub Below : ℕ → List ℕ → Type 0
Below w vs = AllByRecursion (λ v. v < 2 ^ w) vs

-- the same, as a test
abbrev pub below : ℕ → List ℕ → Bool
below w [] = true
below w (v ∷ vs) = nat_lt v (2 ^ w) && below w vs

-- a list of bytes
abbrev pub Bytes : List ℕ → Type 0
Bytes bs = AllByRecursion (λ b. b < 256) bs
