-- Which record is whose, as records are added.
use Rattle.std.proofs.Common.{◌≡◌, ℕ, zero, suc, ◌+◌, ◌≤◌, true, ◌⊎◌, List, [], ◌∷◌, ◌++◌, length, sym, ap, ◌∙◌, inl, inr, ⊎_elim, arith, length-append}
use lib.Seq.{get_or-append_seam}
use Rattle.std.proofs.lemmas.List.{get_or_append_left}
use Rattle.std.proofs.lemmas.Bool.{cases_lt}
use Rattle.document.specs.Nodes.{Path, root, ◌▹◌}
use Rattle.document.specs.Records.{times}
use Rattle.document.proofs.Paths.{same_true}
use Rattle.document.proofs.Growth.{times-at, place_of}
use Rattle.nodes.specs.Homes.{node_of, Home, is_child}

-- a record stays whose it is
pub home-more : (ns ms : List Path) (r : ℕ) (p : Path) → Home ns r p → Home (ns ++ ms) r p
home-more ns ms r p (a, b, e) = (a, omega (arith, length-append ns ms), get_or_append_left (root ∷ ns) ms root r (omega arith) ∙ e)

-- the record that comes is the new node's
pub home-new : (ns : List Path) (q : Path) → Home (ns ++ q ∷ []) (1 + length ns) q
home-new ns q = (omega arith, omega (arith, length-append ns (q ∷ [])), let n : 1 + length ns ≡ suc (length ns) = omega arith in ap (node_of (ns ++ q ∷ [])) n ∙ get_or-append_seam (root ∷ ns) q [] root)

-- each record was there, or is the new one
pub home-cases : (ns : List Path) (q : Path) (r : ℕ) (p : Path) → Home (ns ++ q ∷ []) r p → Home ns r p ⊎ ((r ≡ 1 + length ns) × (p ≡ q))
home-cases ns q r p (a, b, e) = ⊎_elim
    (λ l. inl (a, l, sym (get_or_append_left (root ∷ ns) (q ∷ []) root r (omega arith)) ∙ e))
    (λ l. let n : r ≡ 1 + length ns = omega (arith, length-append ns (q ∷ [])) in inr (n, sym e ∙ ap (node_of (ns ++ q ∷ [])) n ∙ (home-new ns q).2))
    (cases_lt r (1 + length ns))

-- a record is one node's
pub home-one : (ns : List Path) (r : ℕ) (p q : Path) → Home ns r p → Home ns r q → p ≡ q
home-one ns r p q h k = sym h.2 ∙ k.2

-- a child of two nodes
pub child-one : (p q x : Path) → is_child p x ≡ true → is_child q x ≡ true → p ≡ q
child-one p q root e f = cc
child-one p q (y ▹ s) e f = sym (same_true y p e) ∙ same_true y q f

-- a node that has a record stands among the nodes that have one
pub home-times : (ns : List Path) (r : ℕ) (p : Path) → Home ns r p → 1 ≤ times p ns
home-times ns zero p (l, u, e) = absurd (omega arith)
home-times ns (suc j) p (l, u, e) = rw e at (times-at ns j (omega arith))

-- a node among those that have a record has one
pub home_of : (ns : List Path) (p : Path) → 1 ≤ times p ns → (r : ℕ) × Home ns r p
home_of ns p h = let (j, l, e) = place_of p ns h in (suc j, (omega arith, omega arith, e))
