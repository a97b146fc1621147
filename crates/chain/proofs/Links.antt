-- Chains under changes of the table.
use Rattle.std.proofs.Common.{◌≡◌, ℕ, ◌<◌, ◌≤◌, cond, eqb, ◌⊎◌, List, [], ◌∷◌, ◌++◌, length, get_or, sym, refl, ap, ◌∙◌, subst, inl, inr, ⊎_elim, arith, set, length-set, get_or-set_other}
use Rattle.std.specs.List.{AllByRecursion}
use Rattle.std.proofs.lemmas.Bool.{cond-true, cond-false, eq-eqb, ne_eqb}
use Rattle.chain.specs.Chains.{Runs, Out, last_of, appended}
use Rattle.chain.proofs.Tables.{length-appended, get_or-appended-place, get_or-appended-last, get_or-appended-other}

-- each record of a chain is one of the table, and not 0
pub runs-within : (ns : List ℕ) (head : ℕ) (is : List ℕ) → Runs ns head is → AllByRecursion (λ i. (0 < i) × (i < length ns)) is
runs-within ns head [] h = tt
runs-within ns head (i ∷ is) (e, p, q, o, r) = ((p, q), runs-within ns (get_or ns i 0) is r)

-- 0 is no record of a chain
pub runs-out-0 : (ns : List ℕ) (head : ℕ) (is : List ℕ) → Runs ns head is → Out 0 is
runs-out-0 ns head [] h = tt
runs-out-0 ns head (i ∷ is) (e, p, q, o, r) = (λ z. omega arith, runs-out-0 ns (get_or ns i 0) is r)

-- what is above each record is none of them
pub out-above : (k : ℕ) (is : List ℕ) → AllByRecursion (λ i. i < k) is → Out k is
out-above k [] h = tt
out-above k (i ∷ is) (l, h) = (λ e. omega arith, out-above k is h)

-- a chain depends on its own records only
pub runs_same : (ns ms : List ℕ) (head : ℕ) (is : List ℕ) → length ns ≤ length ms → AllByRecursion (λ i. get_or ms i 0 ≡ get_or ns i 0) is → Runs ns head is → Runs ms head is
runs_same ns ms head [] l same h = h
runs_same ns ms head (i ∷ is) l (e, same) (a, p, q, o, r) =
    let P : ℕ → Type 0 = λ n. ((n ≡ 0) ⊎ (i < n)) × Runs ms n is in
    let t = subst P (sym e) (o, runs_same ns ms (get_or ns i 0) is l same r) in
    (a, p, omega arith, t.0, t.1)

-- a chain stays where a record that is none of its own is changed
pub runs_other : (ns : List ℕ) (k n : ℕ) (head : ℕ) (is : List ℕ) → Out k is → Runs ns head is → Runs (set ns k n) head is
runs_other ns k n head is out h = runs_same ns (set ns k n) head is (simp length-set (omega arith)) (same is out) h
  where
    same : (js : List ℕ) → Out k js → AllByRecursion (λ i. get_or (set ns k n) i 0 ≡ get_or ns i 0) js
    same [] o = tt
    same (j ∷ js) (o, os) = (get_or-set_other ns k j n 0 o, same js os)

-- the last of some records is one of them
pub last-in : (P : ℕ → Type 0) (i : ℕ) (is : List ℕ) → AllByRecursion P (i ∷ is) → P (last_of (i ∷ is))
last-in P i [] h = h.0
last-in P i (j ∷ is) h = last-in P j is h.1

pub last-push : (is : List ℕ) (k : ℕ) → last_of (is ++ k ∷ []) ≡ k
last-push [] k = refl
last-push (i ∷ []) k = refl
last-push (i ∷ (j ∷ is)) k = last-push (j ∷ is) k

-- a chain rises up to its last record
pub last-above : (ns : List ℕ) (head : ℕ) (i : ℕ) (is : List ℕ) → Runs ns head (i ∷ is) → i ≤ last_of (i ∷ is)
last-above ns head i [] h = omega arith
last-above ns head i (j ∷ is) (e, p, q, o, r) =
    let ih = last-above ns (get_or ns i 0) j is r in
    let n : get_or ns i 0 ≡ j = r.0 in
    let z : 0 < j = r.1 in
    ⊎_elim (λ e. omega arith) (λ l. omega arith) o

-- 0 comes after the last record
pub runs_last : (ns : List ℕ) (head : ℕ) (i : ℕ) (is : List ℕ) → Runs ns head (i ∷ is) → get_or ns (last_of (i ∷ is)) 0 ≡ 0
runs_last ns head i [] (e, p, q, o, r) = r
runs_last ns head i (j ∷ is) (e, p, q, o, r) = runs_last ns (get_or ns i 0) j is r

-- a record after which 0 comes is in a chain only as its last one
pub runs-out : (ns : List ℕ) (k : ℕ) → get_or ns k 0 ≡ 0 → (head : ℕ) (is : List ℕ) → Runs ns head is → (k ≡ last_of is → ⊥) → Out k is
runs-out ns k z head [] h ne = tt
runs-out ns k z head (i ∷ []) h ne = (λ e. ne (sym e), tt)
runs-out ns k z head (i ∷ (j ∷ is)) (e, p, q, o, r) ne =
    let n : get_or ns i 0 ≡ j = r.0 in
    let m : 0 < j = r.1 in
    (λ e. omega (arith, ap (λ x. get_or ns x 0) e), runs-out ns k z (get_or ns i 0) (j ∷ is) r ne)

-- two chains with different last records: the last one of either is none of the other's
pub last_out : (ns : List ℕ) (head : ℕ) (is : List ℕ) (other : ℕ) (js : List ℕ) → Runs ns head is → Runs ns other js → (last_of is ≡ last_of js → ⊥) → Out (last_of is) js
last_out ns head [] other js h k ne = runs-out-0 ns other js k
last_out ns head (i ∷ is) other js h k ne = runs-out ns (last_of (i ∷ is)) (runs_last ns head i is h) other js k ne

-- a chain that goes on from its last record to a new one
grow : (ns ms : List ℕ) (last place : ℕ) → length ns ≤ length ms → 0 < place → place < length ms → get_or ms last 0 ≡ place → get_or ms place 0 ≡ 0
    → ((k : ℕ) → (k ≡ place → ⊥) → (k ≡ last → ⊥) → get_or ms k 0 ≡ get_or ns k 0)
    → (head i : ℕ) (is : List ℕ) → Runs ns head (i ∷ is) → last_of (i ∷ is) ≡ last → AllByRecursion (λ k. k < place) (i ∷ is) → Runs ms head (i ∷ (is ++ place ∷ []))
grow ns ms last place l p0 p1 at_last at_place same head i [] (e, p, q, o, r) g below =
    let b : i < place = below.0 in
    let n : get_or ms i 0 ≡ place = ap (λ k. get_or ms k 0) g ∙ at_last in
    (e, p, omega arith, inr (omega arith), (n, p0, p1, inl at_place, at_place))
grow ns ms last place l p0 p1 at_last at_place same head i (j ∷ is) (e, p, q, o, r) g below =
    let n : get_or ns i 0 ≡ j = r.0 in
    let z : 0 < j = r.1 in
    let up : i < j = ⊎_elim (λ e. omega arith) (λ l. omega arith) o in
    let b : i < place = below.0 in
    let a = last-above ns (get_or ns i 0) j is r in
    let s : get_or ms i 0 ≡ get_or ns i 0 = same i (λ e. omega arith) (λ e. omega arith) in
    let P : ℕ → Type 0 = λ n. ((n ≡ 0) ⊎ (i < n)) × Runs ms n (j ∷ (is ++ place ∷ [])) in
    let t = subst P (sym s) (o, grow ns ms last place l p0 p1 at_last at_place same (get_or ns i 0) j is r g below.1) in
    (e, p, omega arith, t.0, t.1)

-- a chain with a record more: its last one names the new one, which ends it
pub runs_append : (ns : List ℕ) (first last place : ℕ) (is : List ℕ) → 0 < place → place < length ns → Runs ns first is → last_of is ≡ last → AllByRecursion (λ i. i < place) is
    → Runs (appended (λ _ n. n) ns last place 0) (cond (eqb last 0) place first) (is ++ place ∷ [])
runs_append ns first last place [] p q h g below =
    let ms = appended (λ _ n. n) ns last place 0 in
    let z : get_or ms place 0 ≡ 0 = get_or-appended-place (λ _ n. n) ns last place 0 0 (λ e. omega arith) q in
    let l = length-appended (λ _ n. n) ns last place 0 in
    (cond-true (eqb last 0) place first (eq-eqb last 0 (sym g)), p, omega arith, inl z, z)
runs_append ns first last place (i ∷ is) p q h g below =
    let ms = appended (λ _ n. n) ns last place 0 in
    let l = length-appended (λ _ n. n) ns last place 0 in
    let w : (0 < last_of (i ∷ is)) × (last_of (i ∷ is) < length ns) = last-in (λ k. (0 < k) × (k < length ns)) i is (runs-within ns first (i ∷ is) h) in
    let u : last_of (i ∷ is) < place = last-in (λ k. k < place) i is below in
    let nz : last ≡ 0 → ⊥ = λ e. omega arith in
    let t = grow ns ms last place (omega arith) p (omega arith)
    (get_or-appended-last (λ _ n. n) ns last place 0 0 nz (λ e. omega arith) (omega arith))
    (get_or-appended-place (λ _ n. n) ns last place 0 0 (λ e. omega arith) q)
    (λ k a b. get_or-appended-other (λ _ n. n) ns last place 0 k 0 a b)
    first i is h g below in
    let P : ℕ → Type 0 = λ k. Runs ms k (i ∷ (is ++ place ∷ [])) in
    subst P (sym (cond-false (eqb last 0) place first (ne_eqb last 0 nz))) t

-- a chain of which neither the last record nor the new one is a part stays
pub runs-beside : (ns : List ℕ) (last place : ℕ) (head : ℕ) (is : List ℕ) → Runs ns head is → Out last is → Out place is → Runs (appended (λ _ n. n) ns last place 0) head is
runs-beside ns last place head is h o p =
    let l = length-appended (λ _ n. n) ns last place 0 in
    runs_same ns (appended (λ _ n. n) ns last place 0) head is (omega arith) (same is o p) h
  where
    same : (js : List ℕ) → Out last js → Out place js → AllByRecursion (λ i. get_or (appended (λ _ n. n) ns last place 0) i 0 ≡ get_or ns i 0) js
    same [] o p = tt
    same (j ∷ js) (o, os) (p, ps) = (get_or-appended-other (λ _ n. n) ns last place 0 j 0 p o, same js os ps)
