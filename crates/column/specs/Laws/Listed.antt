-- What holds of the five listed widths.
use Rattle.std.specs.Prelude.{◌≡◌, ℕ, ◌≤◌, true, ◌||◌, ◌⊎◌, ◌==◌}
use Rattle.std.proofs.Common.{sym, subst, inl, inr, arith}
use Rattle.std.proofs.lemmas.Bool.{or_cases, eqb-true}
use Rattle.column.specs.Widths.{listed}

-- what holds of each of them holds of every listed width
pub at_listed : (P : ℕ → Type 0) → P 1 → P 8 → P 16 → P 32 → P 64 → (w : ℕ) → listed w ≡ true → P w
at_listed P p1 p8 p16 p32 p64 w l = first (or_cases (w == 1) _ l)
  where
    at : (n : ℕ) → P n → (w == n) ≡ true → P w
    at n p e = subst P (sym (eqb-true w n e)) p

    fourth : ((w == 32) ≡ true) ⊎ ((w == 64) ≡ true) → P w
    fourth (inl e) = at 32 p32 e
    fourth (inr e) = at 64 p64 e

    third : ((w == 16) ≡ true) ⊎ ((w == 32 || w == 64) ≡ true) → P w
    third (inl e) = at 16 p16 e
    third (inr e) = fourth (or_cases (w == 32) (w == 64) e)

    second : ((w == 8) ≡ true) ⊎ ((w == 16 || (w == 32 || w == 64)) ≡ true) → P w
    second (inl e) = at 8 p8 e
    second (inr e) = third (or_cases (w == 16) _ e)

    first : ((w == 1) ≡ true) ⊎ ((w == 8 || (w == 16 || (w == 32 || w == 64))) ≡ true) → P w
    first (inl e) = at 1 p1 e
    first (inr e) = second (or_cases (w == 8) _ e)

pub width-most : (w : ℕ) → listed w ≡ true → w ≤ 64
width-most = at_listed (λ w. w ≤ 64) (omega arith) (omega arith) (omega arith) (omega arith) (omega arith)
