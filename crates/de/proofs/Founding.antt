-- The child of an index, as it is found among a node's children.
use Rattle.std.proofs.Common.{◌≡◌, ℕ, ◌⊎◌, List, map as each, ap, ◌∙◌, inl, inr, ⊎_elim, arith}
use Rattle.std.proofs.Math.ListN.{get_or-map}
use Rattle.chain.specs.Chains.{course}
use Rattle.chain.proofs.Courses.{runs-course}
use Rattle.document.specs.Nodes.{Path, ◌▹◌, Step, alt}
use Rattle.nodes.specs.Homes.{Home, is_child, places}
use Rattle.nodes.specs.Children.{seek}
use Rattle.nodes.proofs.Homes.{home-times, home_of}
use Rattle.nodes.proofs.Seeking.{seek-child}
use Rattle.de.specs.declared.records.Node.{Node as Row}
use Rattle.de.specs.Moves.{Sheets, node, root_node, child_of}
use Rattle.de.specs.Reads.{nexts, Linked}

-- the indices of the records
abbrev pub indices : Sheets → List ℕ
indices T = each (λ x. x.index) T.nodes

-- The walk over a node's children goes to exactly the records of its children.
pub children-course : (T : Sheets) (ps : List Path) → Linked T ps → (r : ℕ) (p : Path) → Home ps r p → (x : Row) → x.children ≡ (node T r).children
    → (i : ℕ) → child_of T x i ≡ seek (indices T) i (places (is_child p) 1 ps)
children-course T ps L r p home x e i = ap (λ c. seek (indices T) i (course (nexts T) c.first)) e ∙ ap (seek (indices T) i) (runs-course (nexts T) (node T r).children.first (places (is_child p) 1 ps) (L.children r p home).0)

-- The child of an index of a node whose children are branches: there is none and the answer is 0, or it is that child's record.
pub found-child : (T : Sheets) (ps : List Path) → Linked T ps → (r : ℕ) (p : Path) → Home ps r p → ((k : ℕ) (s : Step) → Home ps k (p ▹ s) → (i : ℕ) × (s ≡ alt i))
    → (x : Row) → x.children ≡ (node T r).children
    → (i : ℕ) → ((child_of T x i ≡ 0) × ((k : ℕ) → Home ps k (p ▹ alt i) → ⊥)) ⊎ Home ps (child_of T x i) (p ▹ alt i)
found-child T ps L r p home branches x e i = rw (children-course T ps L r p home x e i)
    (⊎_elim (λ n. inl (n.1, λ k h. omega (arith, n.0, home-times ps k (p ▹ alt i) h))) (λ f. inr f)
    (seek-child (indices T) ps p (λ k q h. get_or-map (λ (y : Row). y.index) T.nodes k root_node ∙ L.indices k q h) (λ s some. let (k, h) = home_of ps (p ▹ s) some in branches k s h) i))
