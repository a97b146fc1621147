-- Numbers as digits, the lowest first.
use Rattle.std.specs.Prelude.{ℕ, zero, suc, ◌+◌, ◌*◌, ◌/◌, ◌%◌, List, [], ◌∷◌}

-- a number's k lowest digits
abbrev pub low : ℕ → ℕ → ℕ → List ℕ
low base zero v = []
low base (suc k) v = v % base ∷ low base k (v / base)

-- the number that bytes write: a byte's digit is what it leaves when divided by the base
abbrev pub total : ℕ → List ℕ → ℕ
total base [] = 0
total base (b ∷ bs) = b % base + base * total base bs
