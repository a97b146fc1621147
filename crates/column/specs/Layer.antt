-- Layers: kinds that pass a changed list on to a kind below.
use Rattle.std.specs.Prelude.{◌≡◌, ℕ, suc, cond, List, [], length}
use Rattle.column.specs.Widths.{listed, Below}
use Rattle.column.specs.Parsed.{Parsed, got, short, bad}
use Rattle.column.specs.Meaning.{Meaning}

-- what a layer answers: the values changed back, or the fault of the kind below, one layer deeper
abbrev pub changed : (List ℕ → List ℕ) → Parsed (List ℕ) → Parsed (List ℕ)
changed back (got vs used) = got (back vs) used
changed back (short depth) = short (suc depth)
changed back (bad depth) = bad (suc depth)

-- the layer that passes `there` of its values on to the kind below, and reads `back` of what that reads; an unlisted width it finds itself
abbrev pub layer : (ℕ → List ℕ → List ℕ) → (ℕ → List ℕ → List ℕ) → Meaning → Meaning
layer there back lower =
    record { image = λ w vs. lower.image w (there w vs); parse = λ w n bytes. cond (listed w) (changed (back w) (lower.parse w n bytes)) (bad 0); floor = suc lower.floor }

-- what makes such a layer lawful over every lawful kind
pub record Undone (there back : ℕ → List ℕ → List ℕ) : Type 0 where
  -- the empty list stays empty
  pub empty : (w : ℕ) → there w [] ≡ []
  -- a changed list is as long, and fits the width
  pub as_long : (w : ℕ) (vs : List ℕ) → length (there w vs) ≡ length vs
  pub fits : (w : ℕ) (vs : List ℕ) → Below w vs → Below w (there w vs)
  -- changing back undoes the change
  pub undoes : (w : ℕ) (vs : List ℕ) → Below w vs → back w (there w vs) ≡ vs
  -- a list that is changed back is as long, and fits the width
  pub back_as_long : (w : ℕ) (ds : List ℕ) → length (back w ds) ≡ length ds
  pub back_fits : (w : ℕ) (ds : List ℕ) → Below w ds → Below w (back w ds)
