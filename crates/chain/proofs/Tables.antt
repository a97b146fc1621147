-- What an append leaves in a table.
use Rattle.std.proofs.Common.{◌≡◌, ℕ, zero, suc, ◌<◌, Bool, true, false, cond, eqb, List, [], ◌∷◌, map, length, get_or, set, sym, refl, ap, ◌∙◌, ⊎_elim, arith, length-set, get_or-set_other, get_or-set_same}
use Rattle.std.proofs.lemmas.List.{map-set}
use Rattle.std.proofs.lemmas.Bool.{cond-true, cond-false, cases_eq, eq-eqb, ne_eqb}
use Rattle.chain.specs.Chains.{adjust, appended}

-- an element that is written is one that is put through f
pub set-adjust : {X : Type 0} (f : X → X) (xs : List X) (i : ℕ) (d : X) → i < length xs → set xs i (f (get_or xs i d)) ≡ adjust f i xs
set-adjust f [] i d h = absurd (omega arith)
set-adjust f (x ∷ xs) zero d h = refl
set-adjust f (x ∷ xs) (suc i) d h = ap (λ zs. x ∷ zs) (set-adjust f xs i d (omega arith))

pub length-adjust : {X : Type 0} (f : X → X) (i : ℕ) (xs : List X) → length (adjust f i xs) ≡ length xs
length-adjust f i [] = refl
length-adjust f zero (x ∷ xs) = refl
length-adjust f (suc i) (x ∷ xs) = ap suc (length-adjust f i xs)

pub get_or-adjust-same : {X : Type 0} (f : X → X) (i : ℕ) (xs : List X) (d : X) → i < length xs → get_or (adjust f i xs) i d ≡ f (get_or xs i d)
get_or-adjust-same f i [] d h = absurd (omega arith)
get_or-adjust-same f zero (x ∷ xs) d h = refl
get_or-adjust-same f (suc i) (x ∷ xs) d h = get_or-adjust-same f i xs d (omega arith)

pub get_or-adjust-other : {X : Type 0} (f : X → X) (i k : ℕ) (xs : List X) (d : X) → (k ≡ i → ⊥) → get_or (adjust f i xs) k d ≡ get_or xs k d
get_or-adjust-other f i k [] d h = refl
get_or-adjust-other f zero zero (x ∷ xs) d h = absurd (h refl)
get_or-adjust-other f zero (suc k) (x ∷ xs) d h = refl
get_or-adjust-other f (suc i) zero (x ∷ xs) d h = refl
get_or-adjust-other f (suc i) (suc k) (x ∷ xs) d h = get_or-adjust-other f i k xs d (λ e. h (ap suc e))

-- what f leaves alone is as it was everywhere
pub adjust-keeps : {X Y : Type 0} (g : X → Y) (f : X → X) → ((x : X) → g (f x) ≡ g x) → (i k : ℕ) (xs : List X) (d : X) → g (get_or (adjust f i xs) k d) ≡ g (get_or xs k d)
adjust-keeps g f h i k [] d = refl
adjust-keeps g f h zero zero (x ∷ xs) d = h x
adjust-keeps g f h zero (suc k) (x ∷ xs) d = refl
adjust-keeps g f h (suc i) zero (x ∷ xs) d = refl
adjust-keeps g f h (suc i) (suc k) (x ∷ xs) d = adjust-keeps g f h i k xs d

pub map-adjust : {X Y : Type 0} (g : X → Y) (f : X → X) (h : Y → Y) → ((x : X) → g (f x) ≡ h (g x)) → (i : ℕ) (xs : List X) → map g (adjust f i xs) ≡ adjust h i (map g xs)
map-adjust g f h e i [] = refl
map-adjust g f h e zero (x ∷ xs) = ap (λ y. y ∷ map g xs) (e x)
map-adjust g f h e (suc i) (x ∷ xs) = ap (λ ys. g x ∷ ys) (map-adjust g f h e i xs)

module _ {R : Type 0} (with_next : R → ℕ → R) (table : List R) (last place : ℕ) (new : R) where
  -- a chain of no record: only the new one is written
  pub appended-first : last ≡ 0 → appended with_next table last place new ≡ set table place (with_next new 0)
  appended-first z = cond-true (eqb last 0) _ _ (eq-eqb last 0 z)

  -- else the last one names it
  pub appended-after : (last ≡ 0 → ⊥) → appended with_next table last place new ≡ adjust (λ r. with_next r place) last (set table place (with_next new 0))
  appended-after nz = cond-false (eqb last 0) _ _ (ne_eqb last 0 nz)

  pub length-appended : length (appended with_next table last place new) ≡ length table
  length-appended = ⊎_elim
      (λ z. ap length (appended-first z) ∙ length-set table place (with_next new 0))
      (λ z. ap length (appended-after z) ∙ length-adjust (λ r. with_next r place) last (set table place (with_next new 0)) ∙ length-set table place (with_next new 0))
      (cases_eq last 0)

  -- the new record ends its chain
  pub get_or-appended-place : (d : R) → (place ≡ last → ⊥) → place < length table → get_or (appended with_next table last place new) place d ≡ with_next new 0
  get_or-appended-place d ne l = ⊎_elim
      (λ z. ap (λ xs. get_or xs place d) (appended-first z) ∙ get_or-set_same table place (with_next new 0) d l)
      (λ z. ap (λ xs. get_or xs place d) (appended-after z) ∙ get_or-adjust-other (λ r. with_next r place) last place (set table place (with_next new 0)) d ne
      ∙ get_or-set_same table place (with_next new 0) d l)
      (cases_eq last 0)

  -- the last record names the new one
  pub get_or-appended-last : (d : R) → (last ≡ 0 → ⊥) → (last ≡ place → ⊥) → last < length table → get_or (appended with_next table last place new) last d ≡ with_next (get_or table last d) place
  get_or-appended-last d nz ne l =
      ap (λ xs. get_or xs last d) (appended-after nz) ∙ get_or-adjust-same (λ r. with_next r place) last (set table place (with_next new 0)) d (simp length-set l)
      ∙ ap (λ r. with_next r place) (get_or-set_other table place last (with_next new 0) d ne)

  -- every other record is as it was
  pub get_or-appended-other : (k : ℕ) (d : R) → (k ≡ place → ⊥) → (k ≡ last → ⊥) → get_or (appended with_next table last place new) k d ≡ get_or table k d
  get_or-appended-other k d np nl = ⊎_elim
      (λ z. ap (λ xs. get_or xs k d) (appended-first z) ∙ get_or-set_other table place k (with_next new 0) d np)
      (λ z. ap (λ xs. get_or xs k d) (appended-after z) ∙ get_or-adjust-other (λ r. with_next r place) last k (set table place (with_next new 0)) d nl
      ∙ get_or-set_other table place k (with_next new 0) d np)
      (cases_eq last 0)

  -- what no link changes is the new record's at its place, and as it was at each other
  pub appended-keeps : {Y : Type 0} (g : R → Y) → ((r : R) (n : ℕ) → g (with_next r n) ≡ g r) → (k : ℕ) (d : R) → place < length table
      → g (get_or (appended with_next table last place new) k d) ≡ cond (eqb k place) (g new) (g (get_or table k d))
  appended-keeps g h k d l = unlinked ∙ ⊎_elim here there (cases_eq k place)
    where
      unlinked : g (get_or (appended with_next table last place new) k d) ≡ g (get_or (set table place (with_next new 0)) k d)
      unlinked = ⊎_elim
          (λ z. ap (λ xs. g (get_or xs k d)) (appended-first z))
          (λ z. ap (λ xs. g (get_or xs k d)) (appended-after z) ∙ adjust-keeps g (λ r. with_next r place) (λ r. h r place) last k (set table place (with_next new 0)) d)
          (cases_eq last 0)

      here : k ≡ place → g (get_or (set table place (with_next new 0)) k d) ≡ cond (eqb k place) (g new) (g (get_or table k d))
      here e = ap (λ i. g (get_or (set table place (with_next new 0)) i d)) e ∙ ap g (get_or-set_same table place (with_next new 0) d l) ∙ h new 0
          ∙ sym (cond-true (eqb k place) (g new) (g (get_or table k d)) (eq-eqb k place e))

      there : (k ≡ place → ⊥) → g (get_or (set table place (with_next new 0)) k d) ≡ cond (eqb k place) (g new) (g (get_or table k d))
      there ne = ap g (get_or-set_other table place k (with_next new 0) d ne) ∙ sym (cond-false (eqb k place) (g new) (g (get_or table k d)) (ne_eqb k place ne))

  -- the indices for the next records: those of the table, as a table of their own, after the append
  pub nexts-appended : (next_of : R → ℕ) → ((r : R) (n : ℕ) → next_of (with_next r n) ≡ n)
      → map next_of (appended with_next table last place new) ≡ appended (λ _ n. n) (map next_of table) last place 0
  nexts-appended next_of law = aux (eqb last 0)
    where
      placed : map next_of (set table place (with_next new 0)) ≡ set (map next_of table) place 0
      placed = map-set next_of table place (with_next new 0) ∙ ap (set (map next_of table) place) (law new 0)

      aux : (b : Bool) → map next_of (cond b (set table place (with_next new 0)) (adjust (λ r. with_next r place) last (set table place (with_next new 0))))
          ≡ cond b (set (map next_of table) place 0) (adjust (λ _. place) last (set (map next_of table) place 0))
      aux true = placed
      aux false = map-adjust next_of (λ r. with_next r place) (λ _. place) (λ r. law r place) last (set table place (with_next new 0)) ∙ ap (adjust (λ _. place) last) placed
