-- Values that fit a width, as a test and as a fact.
use Rattle.std.specs.Prelude.{◌≡◌, ℕ, ◌-◌, ◌^◌, ◌<◌, ◌&&◌, ltb, List, [], ◌∷◌, Decides, nat_lt, nat_le, refl, ◌+◌, ◌≤◌, true, false, length, drop, slice_index}
use Rattle.std.proofs.Common.{sym, ◌∙◌, ap₂, inl, inr, arith, pow_pos, ap}
use Rattle.std.specs.List.{list_all}
use Rattle.std.proofs.lemmas.Bool.{lt-ltb, le-ltb, le-leb, lt-leb, cases_lt, and_left}
use Rattle.std.proofs.lemmas.Bool.Decides.{Decides-ltb}
use Rattle.std.proofs.ByRecursion.{Decides-by_and}
use Rattle.column.specs.Widths.{Below, below}
use Rattle.std.proofs.lemmas.List.{at_drop_more}

pub below-decides : (w : ℕ) (vs : List ℕ) → Decides (below w vs) (Below w vs)
below-decides w = Decides-by_and (λ v. ltb v (2 ^ w)) (λ v. v < 2 ^ w) (below w) (λ v. Decides-ltb v (2 ^ w)) refl (λ _ _. refl)

-- the next value fits, so those after it decide
pub below_more : (w : ℕ) (vs : List ℕ) (i top : ℕ) → i < length vs → top ≡ 2 ^ w - 1 → slice_index vs i ≤ top → below w (drop i vs) ≡ below w (drop (i + 1) vs)
below_more w vs i top h e f =
    let here : below w (drop i vs) ≡ (nat_lt (slice_index vs i) (2 ^ w) && below w (drop (i + 1) vs)) = at_drop_more (below w) vs i 0 h in
    let fits : ltb (slice_index vs i) (2 ^ w) ≡ true = lt-ltb (slice_index vs i) (2 ^ w) (omega (arith, pow_pos w)) in
    here ∙ ap (λ t. t && below w (drop (i + 1) vs)) fits

-- the next value does not fit, so they do not all
pub below-never : (w : ℕ) (vs : List ℕ) (i top : ℕ) → i < length vs → top ≡ 2 ^ w - 1 → top < slice_index vs i → below w (drop i vs) ≡ false
below-never w vs i top h e f =
    let here : below w (drop i vs) ≡ (nat_lt (slice_index vs i) (2 ^ w) && below w (drop (i + 1) vs)) = at_drop_more (below w) vs i 0 h in
    here ∙ and_left _ _ (le-ltb (slice_index vs i) (2 ^ w) (omega arith))

-- the code compares each value with the greatest of the width
pub below-all : (w top : ℕ) → top ≡ 2 ^ w - 1 → (vs : List ℕ) → list_all (λ v. nat_le v top) vs ≡ below w vs
below-all w top e [] = refl
below-all w top e (v ∷ vs) = ap₂ ◌&&◌ same (below-all w top e vs)
  where
    same : nat_le v top ≡ nat_lt v (2 ^ w)
    same =
        elim (cases_lt v (2 ^ w)) [
          | inl h ↦ le-leb v top (omega arith) ∙ sym (lt-ltb v (2 ^ w) h)
          | inr h ↦ lt-leb v top (omega (arith, pow_pos w)) ∙ sym (le-ltb v (2 ^ w) h)
        ]
