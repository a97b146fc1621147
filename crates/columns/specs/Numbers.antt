-- The numbers that a text lists.
use Rattle.std.specs.Prelude.{◌≡◌, ℕ, ◌<◌, List, [], ◌∷◌, ◌++◌, length}
use Rattle.std.specs.Char.{is_whitespace, is_not_whitespace}
use Rattle.std.specs.Str.{NoCharPasses, EmptyOrStartsWithPassing}
use Rattle.std.specs.Str.Parse.{digits_value, without_leading_plus}

-- bs is white space, the word w, and rest, which is empty or begins with white space
pub record BeginsWithWord (bs w rest : List ℕ) : Type 0 where
  pub gap : List ℕ
  pub split : bs ≡ gap ++ (w ++ rest)
  pub some : 0 < length w
  pub blank : NoCharPasses is_not_whitespace gap
  pub whole : NoCharPasses is_whitespace w
  pub ends : (more : List ℕ) × EmptyOrStartsWithPassing is_whitespace rest more

-- the words of bs are these numbers, in order
abbrev pub Lists : List ℕ → List ℕ → Type 0
Lists bs [] = NoCharPasses is_not_whitespace bs
Lists bs (v ∷ vs) =
    (w : List ℕ) × (rest : List ℕ) × BeginsWithWord bs w rest × (v ≡ digits_value 10 (without_leading_plus w)) × Lists rest vs
