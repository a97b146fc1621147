-- A new reader stands for a new reading.
use Rattle.std.proofs.Common.{◌≡◌, ℕ, ◌<◌, cond, ltb, List, [], ◌∷◌, length, get_or, set, min, refl, ap, ◌∙◌, inl, ⊎_elim, arith, get_or-set_same}
use Rattle.std.proofs.lemmas.Bool.{cases_lt, cond-true, cond-false, lt-ltb, le-ltb}
use Rattle.document.specs.Nodes.{root}
use Rattle.document.specs.Reader.{begin}
use Rattle.nodes.specs.declared.places.State.TheVariants as states
use Rattle.nodes.specs.Stack.{stack}
use Rattle.de.specs.declared.records.Node.{Node}
use Rattle.de.specs.declared.desk.Desk.{Desk}
use Rattle.de.specs.Moves.{sheets, root_node}
use Rattle.de.specs.Standing.{Stands}
use Rattle.de.proofs.Begun.{begun}

-- the root's record, where the table has one
root-row : (ns ns' : List Node) (n : ℕ) → n ≡ length ns → ns' ≡ cond (ltb 1 n) (set ns 1 root_node) ns → 1 < length ns' → get_or ns' 1 root_node ≡ root_node
root-row ns ns' n e is l = ⊎_elim
    (λ some. ap (λ xs. get_or xs 1 root_node) (is ∙ cond-true (ltb 1 n) _ _ (lt-ltb 1 n some)) ∙ get_or-set_same ns 1 root_node root_node (omega arith))
    (λ few. let same = ap length (is ∙ cond-false (ltb 1 n) _ _ (le-ltb 1 n few)) in absurd (omega arith))
    (cases_lt 1 n)

-- A desk stands for a new reading: its tables have the root's record alone, with nothing read, and its only open place is the root's.
pub begins : (d : Desk) (input : List ℕ) (ns : List Node) (nodes slots : ℕ) → nodes ≡ length ns → nodes ≡ length d.tables.nodes.items → d.tables.nodes.items ≡ cond (ltb 1 nodes) (set ns 1 root_node) ns → slots ≡ length d.tables.slots.items
    → d.tables.used ≡ 2 → d.tables.spot.taken ≡ min slots 1 → d.tables.spot.place ≡ 0 → d.tables.columns ≡ 0 → stack d.places ≡ states.Root ∷ [] → d.places.depth ≡ 1 → length d.places.table ≡ 32
    → Stands d input (begin nodes slots input)
begins d input ns nodes slots m n is s used taken place columns first depth table =
    rw (n, s)
    (record {
      nodes = root ∷ [];
      reads = begun (sheets d.tables) input used (omega arith) place columns (root-row ns d.tables.nodes.items nodes m is);
      opens = rw first (inl (refl, refl, refl));
      depth = omega arith;
      table = table;
    })
