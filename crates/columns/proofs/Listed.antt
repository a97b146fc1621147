-- The numbers of a text, word by word.
use Rattle.std.proofs.Common.{◌≡◌, ℕ, ◌<◌, List, [], ◌∷◌, ◌++◌, length, sym, refl, subst, append_assoc, append-nil}
use Rattle.std.specs.Char.{is_whitespace, is_not_whitespace}
use Rattle.std.specs.Str.{NoCharPasses, EmptyOrStartsWithPassing}
use Rattle.std.specs.Str.Parse.{digits_value, without_leading_plus}
use Rattle.columns.specs.Numbers.{BeginsWithWord, Lists}

-- what `split_whitespace` says of an item, as the record
pub begins-with : (bs w rest : List ℕ) → (gap : List ℕ) × (bs ≡ gap ++ (w ++ rest)) × (0 < length w) × NoCharPasses is_not_whitespace gap × NoCharPasses is_whitespace w × ((more : List ℕ) × EmptyOrStartsWithPassing is_whitespace rest more) → BeginsWithWord bs w rest
begins-with bs w rest item = record { gap = item.0; split = item.1; some = item.2; blank = item.3; whole = item.4; ends = item.5 }

-- the text lists these numbers, and then those of the rest
abbrev pub ListsBefore : List ℕ → List ℕ → List ℕ → Type 0
ListsBefore text rest seen = (vs : List ℕ) → Lists rest vs → Lists text (seen ++ vs)

-- one word more
pub lists-next : (text rest seen : List ℕ) → ListsBefore text rest seen → (w next : List ℕ) → BeginsWithWord rest w next → (v : ℕ) → v ≡ digits_value 10 (without_leading_plus w) → ListsBefore text next (seen ++ (v ∷ []))
lists-next text rest seen before w next begins v is vs lists =
    subst (Lists text) (sym (append_assoc seen (v ∷ []) vs)) (before (v ∷ vs) (w, next, begins, is, lists))

-- no word is left
pub lists-all : (text rest seen : List ℕ) → ListsBefore text rest seen → NoCharPasses is_not_whitespace rest → Lists text seen
lists-all text rest seen before blank = subst (Lists text) (append-nil seen) (before [] blank)
