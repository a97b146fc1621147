-- Lengths in a list: how many are long, and their sum.
use Rattle.std.proofs.Common.{◌≡◌, ℕ, ◌+◌, ◌-◌, ◌^◌, ◌≤◌, cond, leb, List, [], ◌∷◌, min, refl, inl, inr, ◌∙◌, arith}
use Rattle.std.proofs.lemmas.Bool.{lt-ltb, le-ltb, le-leb, lt-leb, cases_lt}
use Rattle.std.proofs.lemmas.List.Recursion.{is_count_by}
use Rattle.std.specs.List.{count_by, fold}
use Rattle.document.specs.Columns.{sum}
use Rattle.document.specs.Fetch.{beyond}

-- the long ones are those that are no less than 255
pub beyond_count : (ns : List ℕ) → beyond ns ≡ count_by (λ n. leb 255 n) ns
beyond_count ns = is_count_by beyond (λ n. leb 255 n) refl step ns
  where
    step : (n : ℕ) (ns : List ℕ) → beyond (n ∷ ns) ≡ cond (leb 255 n) (1 + beyond ns) (beyond ns)
    step n ns = elim (cases_lt n 255) [
      | inl l ↦ rw (lt-ltb n 255 l, lt-leb 255 n l) (omega arith)
      | inr l ↦ rw (le-ltb n 255 l, le-leb 255 n l) (omega arith)
    ]

-- a sum that stops at the greatest number
pub saturated : (a : ℕ) (ns : List ℕ) → a ≤ 2 ^ 64 - 1 → fold (λ s n. min (s + n) (2 ^ 64 - 1)) a ns ≡ min (a + sum ns) (2 ^ 64 - 1)
saturated a [] h = omega arith
saturated a (n ∷ ns) h = saturated (min (a + n) (2 ^ 64 - 1)) ns (omega arith) ∙ omega arith
