-- The guard of an arm, and the row of the table that it tests.
use Rattle.std.proofs.Common.{◌≡◌, ℕ, suc, ◌+◌, ◌-◌, ◌<◌, ◌≤◌, Bool, true, false, ◌&&◌, List, [], ◌∷◌, length, get_or, take, drop, sym, refl, ap, ◌∙◌, subst, inl, inr, add-one, arith}
use Rattle.std.specs.List.{AllByRecursion}
use Rattle.std.proofs.lemmas.Bool.{and_right, cases_lt}
use Rattle.std.proofs.lemmas.List.{take_rest, drop_more, take-append-drop}
use Rattle.std.proofs.ByRecursion.{has_get_or, All-weaker, All-append}
use Rattle.utf8.specs.Table.{Row, table, WellFormed}
use Rattle.utf8.specs.Passes.{in_range, begins}
use Rattle.utf8.proofs.Rows.{Alike, after-row, no_row}

-- the tests of the ranges at the places from k on, after those so far
abbrev tests : Bool → ℕ → Row → List ℕ → Bool
tests sofar k [] s = sofar
tests sofar k (g ∷ gs) s = tests (sofar && in_range g (get_or s k 0)) (suc k) gs s

-- a row's guard, as an arm has it
abbrev pub guard : Row → List ℕ → Bool
guard [] s = true
guard (g ∷ gs) s = tests (in_range g (get_or s 0 0)) 1 gs s

and_assoc : (x y z : Bool) → ((x && y) && z) ≡ (x && (y && z))
and_assoc true y z = refl
and_assoc false y z = refl

and-true : (x : Bool) → x ≡ (x && true)
and-true true = refl
and-true false = refl

-- they are the test of the text from k on
tests-begins : (t : Bool) (k : ℕ) (gs : Row) (s : List ℕ) → k + length gs ≤ length s → tests t k gs s ≡ (t && begins gs (drop k s))
tests-begins t k [] s l = and-true t
tests-begins t k (g ∷ gs) s l =
    let here : k < length s = omega arith in
    tests-begins (t && in_range g (get_or s k 0)) (suc k) gs s (omega arith)
    ∙ and_assoc t (in_range g (get_or s k 0)) (begins gs (drop (suc k) s))
    ∙ ap (λ x. t && begins (g ∷ gs) x) (sym (rw add-one at (drop_more s k 0 here)))

-- so a guard tests whether the text begins with its row
guard-begins : (row : Row) (s : List ℕ) → length row ≤ length s → guard row s ≡ begins row s
guard-begins [] s l = refl
guard-begins (g ∷ gs) [] l = absurd (omega arith)
guard-begins (g ∷ gs) (b ∷ bs) l = tests-begins (in_range g b) 1 gs (b ∷ bs) (omega arith)

-- which it does not where it is shorter
too_short : (row : Row) (s : List ℕ) → length s < length row → begins row s ≡ false
too_short [] s l = absurd (omega arith)
too_short (g ∷ gs) [] l = refl
too_short (g ∷ gs) (b ∷ bs) l = and_right (in_range g b) (begins gs bs) (too_short gs bs (omega arith))

-- an arm that is taken, by its row's place in the table: what it leaves is alike the text
pub taken : (k : ℕ) {s text : List ℕ} → Alike s text → k < 9 → length (get_or table k []) ≤ length s → guard (get_or table k []) s ≡ true → Alike (take (length s - length (get_or table k [])) (drop (length (get_or table k [])) s)) text
taken k {s} {text} a b l e =
    let row = get_or table k [] in
    let f = after-row row s (has_get_or table k [] b) (sym (guard-begins row s l) ∙ e) in
    rw (take_rest s (length row)) (λ w. a.0 (f.0 w), λ w. f.1 (a.1 w))

-- no arm is taken: the first k guards fail, and the text is too short for the other rows
pub none-taken : (k : ℕ) (s : List ℕ) → 1 ≤ length s → AllByRecursion (λ row. guard row s ≡ false) (take k table) → AllByRecursion (λ row. length s < length row) (drop k table) → WellFormed s → ⊥
none-taken k s l a b =
    let fails : (row : Row) → guard row s ≡ false → begins row s ≡ false =
    λ row e. elim (cases_lt (length s) (length row)) [ inl h ↦ too_short row s h | inr h ↦ sym (guard-begins row s h) ∙ e ] in
    let P : Row → Type 0 = λ row. begins row s ≡ false in
    no_row s l (subst (AllByRecursion P) (take-append-drop k table)
    (All-append P (take k table) (drop k table)
    (All-weaker (λ row. guard row s ≡ false) P fails (take k table) a)
    (All-weaker (λ row. length s < length row) P (λ row h. too_short row s h) (drop k table) b)))
