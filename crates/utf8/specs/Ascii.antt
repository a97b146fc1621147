-- A text and what is left of it after some ASCII bytes.
use Rattle.std.specs.Prelude.{◌≡◌, ℕ, ◌≤◌, List, ◌++◌}
use Rattle.std.specs.List.{AllByRecursion}

-- the rest is left after bytes of ASCII
abbrev pub Past : List ℕ → List ℕ → Type 0
Past text rest = (front : List ℕ) × (text ≡ front ++ rest) × AllByRecursion (λ b. b ≤ 0x7f) front
