-- Chains through the places of a list: what appending one element more does to each.
use Rattle.std.proofs.Common.{◌≡◌, ℕ, ◌+◌, ◌-◌, ◌<◌, ◌≤◌, Bool, true, false, cond, ◌⊎◌, List, [], ◌∷◌, ◌++◌, length, get_or, sym, refl, ap, ◌∙◌, subst, inl, inr, ⊎_elim, arith}
use Rattle.std.specs.List.{AllByRecursion}
use Rattle.std.proofs.lemmas.List.{append-nil}
use Rattle.std.proofs.ByRecursion.{All-weaker}
use Rattle.std.proofs.lemmas.Bool.{cases_eq}
use Rattle.chain.specs.declared.Chain.{Chain}
use Rattle.chain.specs.Chains.{Out, last_of, longer, appended}
use Rattle.chain.proofs.Links.{runs_append, runs-beside, runs-out-0, out-above, last_out, last-push}
use Rattle.nodes.specs.Homes.{places, Threads}
use Rattle.nodes.proofs.PlacesOf.{places-all, places-within, places-snoc}

module _ {X : Type 0} (test : X → Bool) where
  -- one element more that passes, or does not
  pub places-on : (i : ℕ) (xs : List X) (x : X) → test x ≡ true → places test i (xs ++ x ∷ []) ≡ places test i xs ++ (i + length xs) ∷ []
  places-on i xs x e = places-snoc test i xs x ∙ ap (λ b. places test i xs ++ cond b ((i + length xs) ∷ []) []) e

  pub places-skip : (i : ℕ) (xs : List X) (x : X) → test x ≡ false → places test i (xs ++ x ∷ []) ≡ places test i xs
  places-skip i xs x e = places-snoc test i xs x ∙ ap (λ b. places test i xs ++ cond b ((i + length xs) ∷ []) []) e ∙ append-nil (places test i xs)

  -- each is the place of an element that passes
  places-in : (i : ℕ) (xs : List X) (d : X) → AllByRecursion (λ k. (i ≤ k) × (k < i + length xs) × (test (get_or xs (k - i) d) ≡ true)) (places test i xs)
  places-in i xs d =
      places-all (λ k. (i ≤ k) × (k < i + length xs) × (test (get_or xs (k - i) d) ≡ true)) test i xs d
      (λ j h e. let n : (i + j) - i ≡ j = omega arith in (omega arith, omega arith, ap (λ k. test (get_or xs k d)) n ∙ e))

  -- the last of them, if there is one
  last-in : (i : ℕ) (xs : List X) (d : X) → (last_of (places test i xs) ≡ 0) ⊎ ((i ≤ last_of (places test i xs)) × (last_of (places test i xs) < i + length xs) × (test (get_or xs (last_of (places test i xs) - i) d) ≡ true))
  last-in i xs d = go (places test i xs) (places-in i xs d)
    where
      go : (is : List ℕ) → AllByRecursion (λ k. (i ≤ k) × (k < i + length xs) × (test (get_or xs (k - i) d) ≡ true)) is
          → (last_of is ≡ 0) ⊎ ((i ≤ last_of is) × (last_of is < i + length xs) × (test (get_or xs (last_of is - i) d) ≡ true))
      go [] h = inl refl
      go (k ∷ []) h = inr h.0
      go (k ∷ (j ∷ is)) h = go (j ∷ is) h.1

  -- all lie before the end
  below : (i : ℕ) (xs : List X) → AllByRecursion (λ k. k < i + length xs) (places test i xs)
  below i xs = All-weaker (λ k. (i ≤ k) × (k < i + length xs)) (λ k. k < i + length xs) (λ k h. h.1) (places test i xs) (places-within test i xs)

-- a chain through the places of those that pass gets the new element's place
pub threads-on : {X : Type 0} (test : X → Bool) (nexts : List ℕ) (c : Chain) (xs : List X) (x : X) (place : ℕ) → place ≡ 1 + length xs → place < length nexts → test x ≡ true
    → Threads nexts c (places test 1 xs) → Threads (appended (λ _ n. n) nexts c.last place 0) (longer c place) (places test 1 (xs ++ x ∷ []))
threads-on test nexts c xs x place e l pass (runs, last) =
    let is = places-on test 1 xs x pass ∙ ap (λ k. places test 1 xs ++ k ∷ []) (sym e) in
    let before = subst (λ n. AllByRecursion (λ k. k < n) (places test 1 xs)) (sym e) (below test 1 xs) in
    let P : List ℕ → Type 0 = λ ks. Threads (appended (λ _ n. n) nexts c.last place 0) (longer c place) ks in
    subst P (sym is) (runs_append nexts c.first c.last place (places test 1 xs) (omega arith) l runs last before, last-push (places test 1 xs) place)

-- a chain through the places of others stays as it is
pub threads-off : {X : Type 0} (test other : X → Bool) → ((x : X) → test x ≡ true → other x ≡ true → ⊥) → (nexts : List ℕ) (c o : Chain) (xs : List X) (x d : X) (place : ℕ) → place ≡ 1 + length xs
    → other x ≡ false → Threads nexts c (places test 1 xs) → Threads nexts o (places other 1 xs) → Threads (appended (λ _ n. n) nexts c.last place 0) o (places other 1 (xs ++ x ∷ []))
threads-off test other apart nexts c o xs x d place e skip (runs, last) (runs', last') =
    let is = places-skip other 1 xs x skip in
    let before = subst (λ n. AllByRecursion (λ k. k < n) (places other 1 xs)) (sym e) (below other 1 xs) in
    let P : List ℕ → Type 0 = λ ks. Threads (appended (λ _ n. n) nexts c.last place 0) o ks in
    subst P (sym is) (runs-beside nexts c.last place o.first (places other 1 xs) runs' (subst (λ k. Out k (places other 1 xs)) last out) (out-above place (places other 1 xs) before), last')
  where
    equal : last_of (places test 1 xs) ≡ last_of (places other 1 xs) → last_of (places test 1 xs) ≡ 0
    equal q = ⊎_elim (λ z. z)
        (λ h. ⊎_elim (λ z. q ∙ z)
        (λ k. absurd (apart (get_or xs (last_of (places test 1 xs) - 1) d) h.2 (ap (λ n. other (get_or xs (n - 1) d)) q ∙ k.2)))
        (last-in other 1 xs d))
        (last-in test 1 xs d)

    out : Out (last_of (places test 1 xs)) (places other 1 xs)
    out = ⊎_elim
        (λ q. subst (λ k. Out k (places other 1 xs)) (sym (equal q)) (runs-out-0 nexts o.first (places other 1 xs) runs'))
        (λ ne. last_out nexts c.first (places test 1 xs) o.first (places other 1 xs) runs runs' ne)
        (cases_eq (last_of (places test 1 xs)) (last_of (places other 1 xs)))
