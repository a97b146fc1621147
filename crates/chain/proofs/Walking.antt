-- A walk among other iterators: the list that it gives, and what a closure may be asked over it.
use Rattle.std.proofs.Common.{◌≡◌, ℕ, ◌<◌, List, [], ◌∷◌, map, length, Option, MatchOption, sym, refl, ap, ◌∙◌, subst, arith}
use Rattle.std.specs.Iterator.{AlwaysYields, Yields, CallableAtEachTurn}
use Rattle.std.specs.List.{FoldsTo}
use Rattle.std.proofs.lemmas.Iterator.{YieldsList}
use Rattle.chain.specs.declared.walks.Walk.{Walk}
use Rattle.chain.specs.Chains.{course}
use Rattle.chain.specs.Walks.{table_of, place_of}

module _ {R : Type 0} (next_of : R → ℕ) where
  -- one call of a walk
  abbrev pub walks : Walk R → Option ℕ → Walk R → Type 0
  walks s r t = (table_of t ≡ table_of s)
      × MatchOption r ((course (map next_of (table_of s)) (place_of s) ≡ []) × (place_of t ≡ place_of s)) (λ k. (course (map next_of (table_of s)) (place_of s) ≡ k ∷ course (map next_of (table_of t)) (place_of t)) × (0 < k) × (k < length (table_of s)))

  always : (ks : List ℕ) (s : Walk R) → course (map next_of (table_of s)) (place_of s) ≡ ks → AlwaysYields walks (λ k. k) s ks
  always [] s e = λ k t h. let a = sym e ∙ h.1.0 in cc
  always (k ∷ ks) s e = (λ t h. let a = sym e ∙ h.1.0 in cc, λ x t h. let a = sym e ∙ h.1.0 in (cc, always ks t (cc)))

  -- a walk gives the records of its course
  pub YieldsList-from_walk : {s : Walk R} (table : List R) (first : ℕ) → table_of s ≡ table → place_of s ≡ first → YieldsList walks (λ k. k) s (course (map next_of table) first)
  YieldsList-from_walk {s} table first e f = record { runs = always (course (map next_of table) first) s (ap (λ t. course (map next_of t) (place_of s)) e ∙ ap (course (map next_of table)) f) }

  same-table : (xs : List ℕ) (s t : Walk R) → Yields walks s xs t → table_of t ≡ table_of s
  same-table [] s t e = sym (ap table_of e)
  same-table (x ∷ xs) s t (j, h, y) = same-table xs j t y ∙ h.0

  -- a closure that stays as it is may be asked of each record of the table
  pub serves_from_walk : {P : Type 0} {Turn : P → ℕ → P → Type 0} {Asked : P → ℕ → Type 0} {s : Walk R} {p : P}
      → ((x : ℕ) (q : P) → Turn p x q → q ≡ p) → ((x : ℕ) → x < length (table_of s) → Asked p x) → CallableAtEachTurn walks Turn Asked s p
  serves_from_walk {P} {Turn} {Asked} {s} {p} stays may = record {
    at = λ xs t q x u y c e. let size = ap length (same-table xs s t y) in subst (λ k. Asked k x) (sym (same-state xs p q refl c)) (may x (omega (arith, size, e.1.2)));
  }
    where
      same-state : (xs : List ℕ) (j q : P) → j ≡ p → FoldsTo Turn j xs q → q ≡ p
      same-state [] j q e f = sym f ∙ e
      same-state (x ∷ xs) j q e (k, r, f) = same-state xs k q (stays x k (subst (λ i. Turn i x k) e r)) f
