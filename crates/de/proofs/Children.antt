-- The numbers of values that an enum's indices demand at its children, counted one index after another.
use Rattle.std.proofs.Common.{◌≡◌, ℕ, ◌+◌, ◌<◌, ◌≤◌, eqb, List, [], ◌∷◌, map, length, get_or, set, drop, sym, ap, ◌∙◌, ⊎_elim, arith, length-set}
use Rattle.std.proofs.lemmas.List.{at_drop_more, get_or-set_same, get_or-set_other}
use Rattle.std.proofs.lemmas.Bool.{cond-true, cond-false, cond_both, cases_eq, eq-eqb, ne_eqb}
use Rattle.document.specs.Calls.{total, ENUM, number}
use Rattle.document.specs.Nodes.{alt, demand}

-- how many values these indices demand at the child i
abbrev pub demanded : ℕ → List ℕ → ℕ
demanded i xs = total (demand ENUM (alt i)) (map number xs)

-- no more than there are indices
pub demanded-most : (i : ℕ) (xs : List ℕ) → demanded i xs ≤ length xs
demanded-most i [] = omega arith
demanded-most i (x ∷ xs) =
    let ih = demanded-most i xs in
    cond_both (eqb x i) 1 0 (λ n. n + demanded i xs ≤ length (x ∷ xs)) (λ _. omega arith) (λ _. omega arith)

-- an index wants a value at its own child ..
here : (xs : List ℕ) (k i : ℕ) → k < length xs → i ≡ get_or xs k 0 → demanded i (drop k xs) ≡ 1 + demanded i (drop (k + 1) xs)
here xs k i h e =
    at_drop_more (demanded i) xs k 0 h ∙ ap (λ n. n + demanded i (drop (k + 1) xs)) (cond-true (eqb (get_or xs k 0) i) 1 0 (eq-eqb _ _ (sym e)))

-- .. and none at another
elsewhere : (xs : List ℕ) (k i : ℕ) → k < length xs → (i ≡ get_or xs k 0 → ⊥) → demanded i (drop k xs) ≡ demanded i (drop (k + 1) xs)
elsewhere xs k i h ne =
    at_drop_more (demanded i) xs k 0 h ∙ ap (λ n. n + demanded i (drop (k + 1) xs)) (cond-false (eqb (get_or xs k 0) i) 1 0 (ne_eqb _ _ (λ e. ne (sym e)))) ∙ omega arith

-- what was counted, and what the indices from k on demand, is what all demand
abbrev pub Counted : List ℕ → List ℕ → ℕ → Type 0
Counted counts xs k = (length counts ≡ 256) × ((i : ℕ) → i < 256 → get_or counts i 0 + demanded i (drop k xs) ≡ demanded i xs)

-- a child's index is counted
pub counted_more : (counts xs : List ℕ) (k : ℕ) → k < length xs → get_or xs k 0 < 256 → Counted counts xs k → Counted (set counts (get_or xs k 0) (get_or counts (get_or xs k 0) 0 + 1)) xs (k + 1)
counted_more counts xs k h b (long, c) = (
  length-set counts _ _ ∙ long,
  λ i l. ⊎_elim
      (λ (e : i ≡ get_or xs k 0).
      let same = get_or-set_same counts (get_or xs k 0) (get_or counts (get_or xs k 0) 0 + 1) 0 (omega arith) in
      omega (arith, same, here xs k i h e, c i l, ap (λ j. get_or counts j 0) e, ap (λ j. get_or (set counts (get_or xs k 0) (get_or counts (get_or xs k 0) 0 + 1)) j 0) e))
      (λ (ne : i ≡ get_or xs k 0 → ⊥). ap (λ n. n + demanded i (drop (k + 1) xs)) (get_or-set_other counts (get_or xs k 0) i _ 0 ne) ∙ ap (λ n. get_or counts i 0 + n) (sym (elsewhere xs k i h ne)) ∙ c i l)
      (cases_eq i (get_or xs k 0)),
)

-- an index above 255 is passed over
pub counted_past : (counts xs : List ℕ) (k : ℕ) → k < length xs → 256 ≤ get_or xs k 0 → Counted counts xs k → Counted counts xs (k + 1)
counted_past counts xs k h b (long, c) = (long, λ i l. ap (λ n. get_or counts i 0 + n) (sym (elsewhere xs k i h (λ e. omega arith))) ∙ c i l)
