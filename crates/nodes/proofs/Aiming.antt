-- The record where a place has its next value is in use.
use Rattle.std.proofs.Common.{◌≡◌, ℕ, zero, suc, ◌+◌, ◌-◌, ◌<◌, List, [], ◌∷◌, length, get_or, refl, inl, inr, arith}
use native.Mathlib.Bridge.{le_prop}
use Rattle.document.specs.Nodes.{Path}
use Rattle.document.specs.Places.{Place, items, keys, vals, fields, lone, only, closing}
use Rattle.nodes.specs.declared.places.State.{State}
use Rattle.nodes.specs.declared.places.State.TheVariants.{Root, Items, Keys, Vals, Fields, Lone, One, Closing}
use Rattle.nodes.specs.declared.places.Places.{Places}
use Rattle.nodes.specs.Stack.{waiting, levels, stack, top}
use Rattle.nodes.specs.Ahead.{Aims}
use Rattle.nodes.specs.Placed.{Placed, Open}

-- A place of the code that is one of the definitions has its next value at a record in use.
placed-aims : (ns : List Path) (used : ℕ) → used ≡ 1 + length ns → (s : State) (f : Place) → Placed ns s f → Aims used s
placed-aims ns used u s (items p n) (r, e, k) = rw e (k.0, omega (arith, k.1))
placed-aims ns used u s (keys p n) (r, e, k, l) = rw e (k.0, omega (arith, k.1))
placed-aims ns used u s (vals p n) (r, e, k, l) = rw e (omega (arith, l.1))
placed-aims ns used u s (fields p i n) (r, e, k) = rw e (λ some_left. (omega (arith, (k 0 some_left).0), omega (arith, (k 0 some_left).1)))
placed-aims ns used u s (lone p n) (r, e, k) = rw e (k.0, omega (arith, k.1))
placed-aims ns used u s (only p) (r, e, k) = rw e (k.0, omega (arith, k.1))
placed-aims ns used u s closing e = rw e tt

-- So has the innermost of the open places.
open-aims : (ns : List Path) (used : ℕ) → used ≡ 1 + length ns → (s : State) (ss : List State) (fs : List Place) → Open ns (s ∷ ss) fs → Aims used s
open-aims ns used u s ss fs (inl (e, k, l)) = rw e tt
open-aims ns used u s ss [] (inr b) = absurd b
open-aims ns used u s ss (f ∷ fs) (inr (k, l)) = placed-aims ns used u s f k

-- .. as it stands in the table.
pub stack-aims : (ns : List Path) (used : ℕ) → used ≡ 1 + length ns → (p : Places) (fs : List Place) → Open ns (stack p) fs → 0 < p.depth → Aims used (top p)
stack-aims ns used u p fs o l = go p.depth o l
  where
    go : (n : ℕ) → Open ns (levels p.table n) fs → 0 < n → Aims used (get_or p.table (n - 1) (waiting Root)).state
    go zero o l = absurd (omega arith)
    go (suc n) o l =
        let e : suc n - 1 ≡ n = omega arith in
        rw e (open-aims ns used u _ (levels p.table n) fs o)

-- Two proofs of it are one.
pub aims-prop : (used : ℕ) (s : State) → IsProp (Aims used s)
aims-prop used Root a b = refl
aims-prop used (Items r n) a b = λ i. (le_prop a.0 b.0 i, le_prop a.1 b.1 i)
aims-prop used (Keys r n) a b = λ i. (le_prop a.0 b.0 i, le_prop a.1 b.1 i)
aims-prop used (Vals r n) a b = le_prop a b
aims-prop used (Fields r n) a b = λ i l. (le_prop (a l).0 (b l).0 i, le_prop (a l).1 (b l).1 i)
aims-prop used (Lone r n) a b = λ i. (le_prop a.0 b.0 i, le_prop a.1 b.1 i)
aims-prop used (One r) a b = λ i. (le_prop a.0 b.0 i, le_prop a.1 b.1 i)
aims-prop used Closing a b = refl
