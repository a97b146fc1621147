-- Chains of records, told by each record's index for the next one; 0 ends a chain.
use Rattle.std.specs.Prelude.{◌≡◌, ℕ, zero, suc, ◌<◌, Bool, cond, ◌&&◌, ◌⊎◌, List, [], ◌∷◌, length, ◌==◌, ◌≢◌, nat_lt, slice_index, slice_set}
use Rattle.chain.specs.declared.Chain.{Chain}

-- where a walk goes on from a record: to its next one if that is greater, and else to the end
abbrev pub onward : ℕ → ℕ → ℕ
onward at next = cond (nat_lt at next) next 0

-- the first n records of a walk
abbrev pub visited : ℕ → List ℕ → ℕ → List ℕ
visited zero nexts at = []
visited (suc n) nexts at =
    cond (nat_lt 0 at && nat_lt at (length nexts)) (at ∷ visited n nexts (onward at (slice_index nexts at))) []

-- The records of a walk: none from 0 or from outside the table, and else the record, and then those from where the walk goes on.
-- A walk rises, so it has no more records than the table.
unfoldable pub course : List ℕ → ℕ → List ℕ
course nexts at = visited (length nexts) nexts at

-- the chain from a head goes through exactly these records: they rise, and 0 comes after the last
abbrev pub Runs : List ℕ → ℕ → List ℕ → Type 0
Runs nexts head [] = head ≡ 0
Runs nexts head (i ∷ is) =
    (head ≡ i) × (0 < i) × (i < length nexts) × ((slice_index nexts i ≡ 0) ⊎ (i < slice_index nexts i)) × Runs nexts (slice_index nexts i) is

-- k is none of these records
abbrev pub Out : ℕ → List ℕ → Type 0
Out k [] = Unit {0}
Out k (i ∷ is) = (i ≢ k) × Out k is

-- the last of these records, 0 where there is none
abbrev pub last_of : List ℕ → ℕ
last_of [] = 0
last_of (i ∷ []) = i
last_of (i ∷ (j ∷ is)) = last_of (j ∷ is)

-- the place and the chain's last record lie in a table of n records, and the place is not 0
abbrev pub within : ℕ → Chain → ℕ → Bool
within n chain place = nat_lt 0 place && (nat_lt place n && nat_lt chain.last n)

-- the chain with one record more, at this place
abbrev pub longer : Chain → ℕ → Chain
longer chain place = record { first = cond (chain.last == 0) place chain.first; last = place }

-- the element at i put through f
abbrev pub adjust : {X : Type 0} → (X → X) → ℕ → List X → List X
adjust f i [] = []
adjust f zero (x ∷ xs) = f x ∷ xs
adjust f (suc i) (x ∷ xs) = x ∷ adjust f i xs

-- the same, unless i is 0
abbrev pub adjust_unless0 : {X : Type 0} → (X → X) → ℕ → List X → List X
adjust_unless0 f i xs = cond (i == 0) xs (adjust f i xs)

-- the table with the new record at this place, as the one after the last
abbrev pub appended : {R : Type 0} → (R → ℕ → R) → List R → ℕ → ℕ → R → List R
appended with_next table last place new = adjust_unless0 (λ r. with_next r place) last (slice_set table place (with_next new 0))
