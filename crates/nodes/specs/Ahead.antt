-- What a place waits for, by its state.
use Rattle.std.specs.Prelude.{ℕ, ◌+◌, ◌-◌, ◌<◌, ◌≤◌, Bool, false, cond, ◌==◌}
use Rattle.nodes.specs.declared.places.State.{State}
use Rattle.nodes.specs.declared.places.State.TheVariants.{Root, Items, Keys, Vals, Fields, Lone, One, Closing}

-- the record at which the next value stands, and the state once that is counted
pub data Ahead : Type 0 where
  nowhere : Ahead
  there : ℕ → State → Ahead

-- where the next value stands; the document's own stands at record 1
abbrev pub ahead : State → Ahead
ahead Root = there 1 Closing
ahead (Items r n) = cond (n == 0) nowhere (there r (Items r (n - 1)))
ahead (Keys r n) = cond (n == 0) nowhere (there r (Vals r (n - 1)))
ahead (Vals r n) = there (r + 1) (Keys r n)
ahead (Fields r n) = cond (n == 0) nowhere (there r (Fields (r + 1) (n - 1)))
ahead (Lone r n) = cond (n == 0) nowhere (there r (Lone r (n - 1)))
ahead (One r) = there r Closing
ahead Closing = nowhere

-- the record where a place has its next value is in use
abbrev pub Aims : ℕ → State → Type 0
Aims used Root = Unit {0}
Aims used (Items r n) = (0 < r) × (r < used)
Aims used (Keys r n) = (0 < r) × (r < used)
Aims used (Vals r n) = r + 1 < used
Aims used (Fields r n) = 1 ≤ n → (0 < r) × (r < used)
Aims used (Lone r n) = (0 < r) × (r < used)
Aims used (One r) = (0 < r) × (r < used)
Aims used Closing = Unit {0}

-- whether `end` may close the place
abbrev pub is_full : State → Bool
is_full Root = false
is_full (Items r n) = n == 0
is_full (Keys r n) = n == 0
is_full (Vals r n) = false
is_full (Fields r n) = n == 0
is_full (Lone r n) = n == 0
is_full (One r) = false
is_full Closing = false
