-- Steps: differences and running sums undo each other, modulo the width.
use Rattle.std.specs.Prelude.{◌≡◌, ℕ, suc, ◌+◌, ◌-◌, ◌%◌, ◌^◌, ◌<◌, List, [], ◌∷◌, length, refl}
use Rattle.std.proofs.Common.{◌∙◌, ap, mod-lt, mod-eq_of_lt, arith, pow_pos}
use Rattle.std.proofs.Math.Nat.{add-mod-mod, add-mod_right}
use Rattle.column.specs.Widths.{Below}
use Rattle.column.specs.Layer.{Undone}
use Rattle.column.specs.Steps.{differences, sums}

length-differences : (w last : ℕ) (vs : List ℕ) → length (differences w last vs) ≡ length vs
length-differences w last [] = refl
length-differences w last (v ∷ vs) = ap suc (length-differences w v vs)

length-sums : (w last : ℕ) (ds : List ℕ) → length (sums w last ds) ≡ length ds
length-sums w last [] = refl
length-sums w last (d ∷ ds) = ap suc (length-sums w ((last + d) % 2 ^ w) ds)

below-differences : (w last : ℕ) (vs : List ℕ) → Below w (differences w last vs)
below-differences w last [] = tt
below-differences w last (v ∷ vs) = (mod-lt (v + 2 ^ w - last) (pow_pos w), below-differences w v vs)

below-sums : (w last : ℕ) (ds : List ℕ) → Below w (sums w last ds)
below-sums w last [] = tt
below-sums w last (d ∷ ds) = (mod-lt (last + d) (pow_pos w), below-sums w ((last + d) % 2 ^ w) ds)

sums-differences : (w last : ℕ) (vs : List ℕ) → last < 2 ^ w → Below w vs → sums w last (differences w last vs) ≡ vs
sums-differences w last [] h b = refl
sums-differences w last (v ∷ vs) h b =
    let part : last + (v + 2 ^ w - last) ≡ v + 2 ^ w = omega arith in
    let here : (last + (v + 2 ^ w - last) % 2 ^ w) % 2 ^ w ≡ v =
    add-mod-mod last (v + 2 ^ w - last) (2 ^ w) ∙ ap (λ n. n % 2 ^ w) part ∙ add-mod_right v (2 ^ w) ∙ mod-eq_of_lt b.0 in
    ap (λ (n : ℕ). n ∷ sums w n (differences w v vs)) here ∙ ap (λ (xs : List ℕ). v ∷ xs) (sums-differences w v vs b.0 b.1)

pub steps-undone : Undone (λ w. differences w 0) (λ w. sums w 0)
steps-undone =
    record { empty = λ w. refl; as_long = λ w vs. length-differences w 0 vs; fits = λ w vs _. below-differences w 0 vs; undoes = λ w vs b. sums-differences w 0 vs (pow_pos w) b; back_as_long = λ w ds. length-sums w 0 ds; back_fits = λ w ds _. below-sums w 0 ds }
