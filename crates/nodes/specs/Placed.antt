-- The open places of the code and those of the definitions.
use Rattle.std.specs.Prelude.{◌≡◌, ℕ, ◌+◌, ◌<◌, ◌⊎◌, List, [], ◌∷◌, Option}
use Rattle.std.specs.declared.option.Option.TheVariants as options
use Rattle.document.specs.Nodes.{Path, ◌▹◌, elem, key, value, field}
use Rattle.document.specs.Places.{Place, items, keys, vals, fields, lone, only, closing, start}
use Rattle.nodes.specs.declared.places.State.{State}
use Rattle.nodes.specs.declared.places.State.TheVariants as states
use Rattle.nodes.specs.Homes.{Home}

-- a place of the code is a place of the definitions, with records for its nodes
abbrev pub Placed : List Path → State → Place → Type 0
Placed ns s (items p n) = (r : ℕ) × (s ≡ states.Items r n) × Home ns r (p ▹ elem)
Placed ns s (keys p n) = (r : ℕ) × (s ≡ states.Keys r n) × Home ns r (p ▹ key) × Home ns (r + 1) (p ▹ value)
Placed ns s (vals p n) = (r : ℕ) × (s ≡ states.Vals r n) × Home ns r (p ▹ key) × Home ns (r + 1) (p ▹ value)
Placed ns s (fields p i n) = (r : ℕ) × (s ≡ states.Fields r n) × ((j : ℕ) → j < n → Home ns (r + j) (p ▹ field (i + j)))
Placed ns s (lone p n) = (r : ℕ) × (s ≡ states.Lone r n) × Home ns r p
Placed ns s (only p) = (r : ℕ) × (s ≡ states.One r) × Home ns r p
Placed ns s closing = s ≡ states.Closing

-- each in its turn; below them the root's own place closes with the document
abbrev pub Stacked : List Path → List State → List Place → Type 0
Stacked ns [] fs = fs ≡ closing ∷ []
Stacked ns (s ∷ ss) [] = ⊥
Stacked ns (s ∷ ss) (f ∷ fs) = Placed ns s f × Stacked ns ss fs

-- The open places of the code and of the definitions: none once the document is complete; the root's alone before the first value;
-- after it the root's own is no longer kept, since it closes with the document.
abbrev pub Open : List Path → List State → List Place → Type 0
Open ns [] fs = fs ≡ []
Open ns (s ∷ ss) fs = ((s ≡ states.Root) × (ss ≡ []) × (fs ≡ start)) ⊎ Stacked ns (s ∷ ss) fs

-- the place that a value opens in the code is the one that it opens in the definitions
abbrev pub Opens : List Path → Option State → List Place → Type 0
Opens ns options.None [] = Unit {0}
Opens ns options.None (f ∷ fs) = ⊥
Opens ns (options.Some s) [] = ⊥
Opens ns (options.Some s) (f ∷ []) = Placed ns s f
Opens ns (options.Some s) (f ∷ (g ∷ fs)) = ⊥
