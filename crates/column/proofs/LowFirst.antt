-- The flat kind: what reading one value answers.
use Rattle.std.specs.Prelude.{◌≡◌, ℕ, ◌^◌, ◌<◌, ◌≤◌, true, cond, ◌⊎◌, List, length, take, Some, None, Ok, nat_le, ◌≢◌, refl}
use Rattle.std.proofs.Common.{inl, inr, arith}
use Rattle.std.proofs.lemmas.List.{length-take}
use Rattle.std.proofs.lemmas.Bool.{lt-ltb}
use Rattle.std.proofs.lemmas.Option.{cond_some}
use Rattle.column.specs.Widths.{listed}
use Rattle.column.specs.Coded.{taken}
use Rattle.column.specs.Digits.{total}
use Rattle.column.specs.Flat.{size, flat_one}
use Rattle.column.specs.Laws.Listed.{at_listed}
use Rattle.column.proofs.Numbers.{total-small}

-- whole bytes hold no more than their width
filled : (w : ℕ) → listed w ≡ true → (w ≢ 1) → 256 ^ size w ≤ 2 ^ w
filled = at_listed (λ w. (w ≢ 1) → 256 ^ size w ≤ 2 ^ w) (λ apart. absurd (apart refl)) (λ _. omega arith) (λ _. omega arith) (λ _. omega arith) (λ _. omega arith)

-- the bytes are there, and their number fits the width
pub one-got : (layer w : ℕ) (bs : List ℕ) (number : ℕ) → listed w ≡ true
    → cond (nat_le (size w) (length bs)) (Some (total 256 (take (size w) bs))) None ≡ Some number
    → ((w ≡ 1) × (number ≤ 1)) ⊎ (w ≢ 1) → Ok (record { value = number; size = size w }) ≡ taken layer (flat_one w bs)
one-got layer w bs number l read which =
    let got = cond_some (nat_le (size w) (length bs)) (total 256 (take (size w) bs)) number read in
    let small : number < 2 ^ w = fits got.1 which in
    rw (got.0, got.1, lt-ltb number (2 ^ w) small) refl
  where
    fits : total 256 (take (size w) bs) ≡ number → ((w ≡ 1) × (number ≤ 1)) ⊎ (w ≢ 1) → number < 2 ^ w
    fits e (inl p) = rw p.0 (omega (arith, p.1))
    fits e (inr apart) = omega (arith, e, total-small (size w) (take (size w) bs) (simp length-take (omega arith)), filled w l apart)
