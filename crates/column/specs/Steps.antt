-- Steps over any kind: the first value, and each later one less its predecessor, modulo the width.
use Rattle.std.specs.Prelude.{ℕ, ◌+◌, ◌-◌, ◌%◌, ◌^◌, List, [], ◌∷◌}
use Rattle.column.specs.Meaning.{Meaning}
use Rattle.column.specs.Layer.{layer}

-- each value less its predecessor, the first one's being given
abbrev pub differences : ℕ → ℕ → List ℕ → List ℕ
differences w last [] = []
differences w last (v ∷ vs) = (v + 2 ^ w - last) % 2 ^ w ∷ differences w v vs

-- the running sums
abbrev pub sums : ℕ → ℕ → List ℕ → List ℕ
sums w last [] = []
sums w last (d ∷ ds) = (last + d) % 2 ^ w ∷ sums w ((last + d) % 2 ^ w) ds

abbrev pub steps : Meaning → Meaning
steps = layer (λ w. differences w 0) (λ w. sums w 0)
