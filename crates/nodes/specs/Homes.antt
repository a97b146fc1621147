-- Which record is whose.
use Rattle.std.specs.Prelude.{◌≡◌, ℕ, suc, ◌+◌, ◌<◌, Bool, false, cond, List, [], ◌∷◌, length, slice_index_or}
use Rattle.chain.specs.declared.Chain.{Chain}
use Rattle.chain.specs.Chains.{Runs, last_of}
use Rattle.document.specs.Nodes.{Path, root, ◌▹◌, elem, key, value, field, alt, same}

-- the node that a record stands for, by the nodes in the order in which they got their records
abbrev pub node_of : List Path → ℕ → Path
node_of ns r = slice_index_or (root ∷ ns) r root

-- the record r is in use, and is the node p's
abbrev pub Home : List Path → ℕ → Path → Type 0
Home ns r p = (0 < r) × (r < 1 + length ns) × (node_of ns r ≡ p)

-- which child of its parent a node is
abbrev pub ordinal : Path → ℕ
ordinal root = 0
ordinal (p ▹ elem) = 0
ordinal (p ▹ key) = 0
ordinal (p ▹ value) = 1
ordinal (p ▹ field i) = i
ordinal (p ▹ alt i) = i

-- whether a node is a child of p
abbrev pub is_child : Path → Path → Bool
is_child p root = false
is_child p (q ▹ s) = same q p

-- the places of those that pass the test, counted from i on
abbrev pub places : {X : Type 0} → (X → Bool) → ℕ → List X → List ℕ
places test i [] = []
places test i (x ∷ xs) = cond (test x) (i ∷ places test (suc i) xs) (places test (suc i) xs)

-- the chain goes through exactly these records
abbrev pub Threads : List ℕ → Chain → List ℕ → Type 0
Threads nexts chain is = Runs nexts chain.first is × (last_of is ≡ chain.last)
