-- Reversing a list twice gives it back, and keeps its length and what holds of its values.
-- No contract cites this file: it stands in specs/ because an impl proves its law in the code, which can name files of specs/ alone.
use Rattle.std.specs.Prelude.{ℕ, ◌^◌, ◌<◌, List, [], ◌∷◌, reverse, refl}
use Rattle.std.proofs.Common.{subst, sym}
use Rattle.std.specs.List.{AllByRecursion}
use Rattle.std.proofs.lemmas.List.{length-reverse, reverse-reverse, reverse-append}
use Rattle.std.proofs.ByRecursion.{All-push}
use Rattle.column.specs.Layer.{Undone}

all-reverse : (P : ℕ → Type 0) (xs : List ℕ) → AllByRecursion P xs → AllByRecursion P (reverse xs)
all-reverse P [] a = tt
all-reverse P (x ∷ xs) a = subst (AllByRecursion P) (sym (reverse-append (x ∷ []) xs)) (All-push P (reverse xs) x (all-reverse P xs a.1) a.0)

pub reverse-undone : Undone (λ _. reverse) (λ _. reverse)
reverse-undone =
    record { empty = λ w. refl; as_long = λ w vs. length-reverse vs; fits = λ w vs b. all-reverse (λ v. v < 2 ^ w) vs b; undoes = λ w vs b. reverse-reverse vs; back_as_long = λ w ds. length-reverse ds; back_fits = λ w ds b. all-reverse (λ v. v < 2 ^ w) ds b }
