-- Lists with other elements from a place on.
use Rattle.std.specs.Prelude.{◌≡◌, ℕ, ◌+◌, ◌<◌, ◌≤◌, List, [], ◌∷◌, ◌++◌, length, take, drop, slice_set}
use Rattle.std.proofs.Common.{sym, ◌∙◌, ap, add-zero, add-one, arith}
use Rattle.std.proofs.lemmas.List.{append_assoc, take-append-drop, take-append-le, take-take, take_at, drop_at, drop-drop, length-append, length-take, length-take-le, length-drop, set_split}
use Rattle.column.specs.Interface.{overlaid}

pub overlaid-nil : (p : ℕ) (old : List ℕ) → overlaid p [] old ≡ old
overlaid-nil p old = rw add-zero (take-append-drop p old)

pub length-overlaid : (p : ℕ) (xs old : List ℕ) → p + length xs ≤ length old → length (overlaid p xs old) ≡ length old
length-overlaid p xs old h = simp (length-append, length-take, length-drop) (omega arith)

pub take-overlaid : (q p : ℕ) (xs old : List ℕ) → q ≤ p → p ≤ length old → take q (overlaid p xs old) ≡ take q old
take-overlaid q p xs old h k =
    take-append-le q (take p old) _ (omega (arith, length-take-le p old k)) ∙ take-take q p old h

-- elements one part after another
pub overlaid-append : (p : ℕ) (xs ys old : List ℕ) → p + length xs ≤ length old → overlaid p (xs ++ ys) old ≡ overlaid (p + length xs) ys (overlaid p xs old)
overlaid-append p xs ys old h =
    let front : List ℕ = take p old ++ xs in
    let rest : List ℕ = drop (p + length xs) old in
    let long : length front ≡ p + length xs = length-append (take p old) xs ∙ ap (λ n. n + length xs) (length-take-le p old (omega arith)) in
    let same : overlaid p xs old ≡ front ++ rest = sym (append_assoc (take p old) xs rest) in
    let taken : take (p + length xs) (overlaid p xs old) ≡ front = ap (take (p + length xs)) same ∙ take_at front rest _ long in
    let dropped : drop (p + length xs) (overlaid p xs old) ≡ rest = ap (drop (p + length xs)) same ∙ drop_at front rest _ long in
    let past : drop (p + length xs + length ys) (overlaid p xs old) ≡ drop (p + length (xs ++ ys)) old =
    sym (drop-drop (length ys) (p + length xs) (overlaid p xs old)) ∙ ap (drop (length ys)) dropped ∙ drop-drop (length ys) (p + length xs) old ∙ ap (λ n. drop n old) (omega (arith, length-append xs ys)) in
    ap (λ (zs : List ℕ). take p old ++ zs) (append_assoc xs ys _) ∙ sym (append_assoc (take p old) xs _) ∙ ap (λ (zs : List ℕ). front ++ (ys ++ zs)) (sym past) ∙ ap (λ (zs : List ℕ). zs ++ (ys ++ drop (p + length xs + length ys) (overlaid p xs old))) (sym taken)

-- one element
pub overlaid-one : (p b : ℕ) (old : List ℕ) → p < length old → overlaid p (b ∷ []) old ≡ slice_set old p b
overlaid-one p b old h = rw (set_split old p b h, add-one)
