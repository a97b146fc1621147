use Rattle.std.proofs.Common.{◌≡◌, ℕ, ◌+◌, Bool, true, false, cond, ◌&&◌, List, [], ◌∷◌, ◌++◌, refl, ap, ap₂, arith}
use Rattle.std.proofs.lemmas.Bool.{eqb-true, eq-eqb, and_parts, and_from}
use Rattle.document.specs.Calls.{total}
use Rattle.document.specs.Entries.{Entry, at}
use Rattle.document.specs.Nodes.{Step, Path, elem, key, value, field, alt, root, ◌▹◌, alike, same}
use Rattle.std.specs.List.{AllByRecursion}

pub alike_self : (s : Step) → alike s s ≡ true
alike_self elem = refl
alike_self key = refl
alike_self value = refl
alike_self (field i) = eq-eqb i i refl
alike_self (alt i) = eq-eqb i i refl

pub alike-true : (s t : Step) → alike s t ≡ true → s ≡ t
alike-true elem elem e = refl
alike-true elem key e = cc
alike-true elem value e = cc
alike-true elem (field j) e = cc
alike-true elem (alt j) e = cc
alike-true key elem e = cc
alike-true key key e = refl
alike-true key value e = cc
alike-true key (field j) e = cc
alike-true key (alt j) e = cc
alike-true value elem e = cc
alike-true value key e = cc
alike-true value value e = refl
alike-true value (field j) e = cc
alike-true value (alt j) e = cc
alike-true (field i) elem e = cc
alike-true (field i) key e = cc
alike-true (field i) value e = cc
alike-true (field i) (field j) e = ap {B = Step} field (eqb-true i j e)
alike-true (field i) (alt j) e = cc
alike-true (alt i) elem e = cc
alike-true (alt i) key e = cc
alike-true (alt i) value e = cc
alike-true (alt i) (field j) e = cc
alike-true (alt i) (alt j) e = ap {B = Step} alt (eqb-true i j e)

pub same_self : (p : Path) → same p p ≡ true
same_self root = refl
same_self (p ▹ s) = and_from (same p p) (alike s s) (same_self p) (alike_self s)

pub same_true : (p q : Path) → same p q ≡ true → p ≡ q
same_true root root e = refl
same_true root (q ▹ t) e = cc
same_true (p ▹ s) root e = cc
same_true (p ▹ s) (q ▹ t) e =
    let h = and_parts (same p q) (alike s t) e in
    ap₂ {C = Path} ◌▹◌ (same_true p q h.0) (alike-true s t h.1)

-- a node is not its own child
pub not-child : (p : Path) (s : Step) → same p (p ▹ s) ≡ false
not-child root s = refl
not-child (p ▹ t) s = aux (same p (p ▹ t)) (not-child p t)
  where
    aux : (b : Bool) → b ≡ false → (b && alike t s) ≡ false
    aux true e = cc
    aux false e = refl

pub total-append : {X : Type 0} (f : X → ℕ) (xs ys : List X) → total f (xs ++ ys) ≡ total f xs + total f ys
total-append f [] ys = omega arith
total-append f (x ∷ xs) ys = omega (arith, total-append f xs ys)

pub at-append : (q : Path) (ds es : List Entry) → at q (ds ++ es) ≡ at q ds ++ at q es
at-append q [] es = refl
at-append q (d ∷ ds) es = aux (same d.node q) (at-append q ds es)
  where
    aux : (b : Bool) → at q (ds ++ es) ≡ at q ds ++ at q es → cond b (d.said ∷ at q (ds ++ es)) (at q (ds ++ es)) ≡ cond b (d.said ∷ at q ds) (at q ds) ++ at q es
    aux true e = ap (λ xs. d.said ∷ xs) e
    aux false e = e

pub all_append : {X : Type 0} (P : X → Type 0) (xs ys : List X) → AllByRecursion P (xs ++ ys) → AllByRecursion P xs × AllByRecursion P ys
all_append P [] ys h = (tt, h)
all_append P (x ∷ xs) ys h = let r = all_append P xs ys h.1 in ((h.0, r.0), r.1)
