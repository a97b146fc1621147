-- The places of a list: of those elements that pass a test.
use Rattle.std.proofs.Common.{◌≡◌, ℕ, zero, suc, ◌+◌, ◌<◌, ◌≤◌, Bool, true, false, cond, List, [], ◌∷◌, ◌++◌, length, get_or, sym, refl, ap, ◌∙◌, subst, add-zero, arith}
use Rattle.std.specs.List.{AllByRecursion}
use Rattle.std.proofs.lemmas.Bool.{cond_both}
use Rattle.chain.specs.Chains.{last_of}
use Rattle.chain.proofs.Links.{last-in}
use Rattle.nodes.specs.Homes.{places}

-- What holds of the place of each element that passes the test holds of each of the places.
pub places-all : {X : Type 0} (P : ℕ → Type 0) (test : X → Bool) (i : ℕ) (xs : List X) (d : X)
    → ((j : ℕ) → j < length xs → test (get_or xs j d) ≡ true → P (i + j)) → AllByRecursion P (places test i xs)
places-all P test i [] d h = tt
places-all P test i (x ∷ xs) d h =
    let rest : AllByRecursion P (places test (suc i) xs) = places-all P test (suc i) xs d (λ j l e. let q : i + suc j ≡ suc i + j = omega arith in subst P q (h (suc j) (omega arith) e)) in
    cond_both (test x) (i ∷ places test (suc i) xs) (places test (suc i) xs) (AllByRecursion P) (λ e. (subst P (add-zero i) (h 0 (omega arith) e), rest)) (λ e. rest)

-- What holds of each of the places holds of the place of each element that passes the test.
pub places-has : {X : Type 0} (P : ℕ → Type 0) (test : X → Bool) (i : ℕ) (xs : List X) (d : X) → AllByRecursion P (places test i xs)
    → (j : ℕ) → j < length xs → test (get_or xs j d) ≡ true → P (i + j)
places-has P test i [] d h j l e = absurd (omega arith)
places-has P test i (x ∷ xs) d h zero l e = subst P (sym (add-zero i)) (rw e at h).0
places-has P test i (x ∷ xs) d h (suc j) l e =
    let q : suc i + j ≡ i + suc j = omega arith in
    subst P q (places-has P test (suc i) xs d (go (test x) h) j (omega arith) e)
  where
    go : (b : Bool) → AllByRecursion P (cond b (i ∷ places test (suc i) xs) (places test (suc i) xs)) → AllByRecursion P (places test (suc i) xs)
    go true k = k.1
    go false k = k

-- A place lies in the list, counted from i on.
pub places-within : {X : Type 0} (test : X → Bool) (i : ℕ) (xs : List X) → AllByRecursion (λ k. (i ≤ k) × (k < i + length xs)) (places test i xs)
places-within test i [] = tt
places-within test i (x ∷ xs) = places-all (λ k. (i ≤ k) × (k < i + length (x ∷ xs))) test i (x ∷ xs) x (λ j l e. (omega arith, omega arith))

-- No place is there where no element passes the test.
pub places-none : {X : Type 0} (test : X → Bool) (i : ℕ) (xs : List X) (d : X) → ((j : ℕ) → j < length xs → test (get_or xs j d) ≡ true → ⊥) → places test i xs ≡ []
places-none test i xs d h = go (places test i xs) (places-all (λ k. ⊥) test i xs d h)
  where
    go : (is : List ℕ) → AllByRecursion (λ k. ⊥) is → is ≡ []
    go [] k = refl
    go (k ∷ ks) (b, bs) = absurd b

-- The places of two lists are those of the first, and then those of the second, counted on.
pub places-append : {X : Type 0} (test : X → Bool) (i : ℕ) (xs ys : List X) → places test i (xs ++ ys) ≡ places test i xs ++ places test (i + length xs) ys
places-append test i [] ys = ap (λ k. places test k ys) (sym (add-zero i))
places-append test i (x ∷ xs) ys = go (test x) (places-append test (suc i) xs ys ∙ ap (λ k. places test (suc i) xs ++ places test k ys) q)
  where
    q : suc i + length xs ≡ i + suc (length xs)
    q = omega arith

    go : (b : Bool) → places test (suc i) (xs ++ ys) ≡ places test (suc i) xs ++ places test (i + suc (length xs)) ys
        → cond b (i ∷ places test (suc i) (xs ++ ys)) (places test (suc i) (xs ++ ys)) ≡ cond b (i ∷ places test (suc i) xs) (places test (suc i) xs) ++ places test (i + suc (length xs)) ys
    go true e = ap (λ is. i ∷ is) e
    go false e = e

-- One more element adds its place if it passes the test.
pub places-snoc : {X : Type 0} (test : X → Bool) (i : ℕ) (xs : List X) (x : X) → places test i (xs ++ x ∷ []) ≡ places test i xs ++ cond (test x) ((i + length xs) ∷ []) []
places-snoc test i xs x = places-append test i xs (x ∷ [])

-- The last place lies in the list too, and is 0 where there is none.
pub places-last : {X : Type 0} (test : X → Bool) (i : ℕ) (xs : List X) → 0 < i + length xs → last_of (places test i xs) < i + length xs
places-last test i xs p = go (places test i xs) (places-within test i xs)
  where
    go : (is : List ℕ) → AllByRecursion (λ k. (i ≤ k) × (k < i + length xs)) is → last_of is < i + length xs
    go [] h = p
    go (k ∷ ks) h = (last-in (λ k. (i ≤ k) × (k < i + length xs)) k ks h).1
