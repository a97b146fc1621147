-- Tallies that are added.
use Rattle.std.specs.Prelude.{◌≡◌, ℕ, ◌+◌, ◌-◌, ◌^◌, min}
use Rattle.cases.specs.declared.tally.Tally.{Tally}

-- the sum, and no more than fits
abbrev pub saturated : ℕ → ℕ → ℕ
saturated a b = min (a + b) (2 ^ 64 - 1)

-- both counts are added up
pub record AddsTally (old other new : Tally) : Type 0 where
  pub compared : new.compared ≡ saturated old.compared other.compared
  pub differed : new.differed ≡ saturated old.differed other.differed
