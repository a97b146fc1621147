-- The text of a list.
use Rattle.std.specs.Prelude.{ℕ, false, List, [], ◌∷◌, ◌++◌, ◌^◌, ◌-◌}
use Rattle.std.specs.List.{flat_map}
use Rattle.std.specs.Fmt.{digits, padded_integral, format_spec}

-- a byte in hexadecimal digits, with zeros before them up to a width of two
abbrev pub hex_pair : ℕ → List ℕ
hex_pair n = padded_integral (format_spec 32 0 4 2 (2 ^ 64 - 1)) false [] (digits 16 false n)

-- an item after the first, with a space before it
abbrev pub after_space : (ℕ → List ℕ) → ℕ → List ℕ
after_space show x = 32 ∷ show x

-- the texts of the items, with a space between them
abbrev pub spaced : (ℕ → List ℕ) → List ℕ → List ℕ
spaced show [] = []
spaced show (x ∷ xs) = show x ++ flat_map (after_space show) xs
