-- A new writer stands for no call.
use Rattle.std.proofs.Common.{◌≡◌, ℕ, ltb, List, [], ◌∷◌, length, get_or, set, sym, refl, ap, ◌∙◌, subst, inl, ⊎_elim, arith, get_or-set_same}
use Rattle.std.proofs.lemmas.List.{get_or_past}
use Rattle.std.proofs.lemmas.Bool.{cases_lt, cond-true, cond-false, lt-ltb, le-ltb}
use Rattle.document.specs.Nodes.{Path, root}
use Rattle.document.specs.Places.{start}
use Rattle.nodes.specs.declared.places.State.TheVariants as states
use Rattle.nodes.specs.Stack.{stack}
use Rattle.nodes.specs.Placed.{Open}
use Rattle.nodes.specs.Homes.{Home, ordinal}
use Rattle.nodes.specs.Children.{rooted}
use Rattle.ser.specs.declared.records.Node.{Node}
use Rattle.ser.specs.declared.desk.Desk.{Desk}
use Rattle.ser.specs.Moves.{blank_node, sheets, node}
use Rattle.ser.specs.Standing.{Stands}

-- a desk whose tables have the root's record alone, blank, and whose only open place is the root's
pub begun : (d : Desk) → d.tables.used ≡ 2 → d.tables.taken ≡ 1 → d.tables.filled ≡ 0 → d.tables.marked ≡ 0 → node (sheets d.tables) 1 ≡ blank_node
    → d.places.depth ≡ 1 → length d.places.table ≡ 32 → stack d.places ≡ states.Root ∷ [] → Stands d []
begun d used taken filled marked blank depth long first =
    record {
      accepted = tt;
      holds =
          record {
            holding =
                record {
                  used = used;
                  taken = taken;
                  filled = filled;
                  marked = marked;
                  marks = λ r p h. ap (λ (n : Node). n.mark) (is r p h);
                  sums = λ r p h. ap (λ (n : Node). n.sum) (is r p h);
                  indices = λ r p h. ap (λ (n : Node). n.index) (is r p h) ∙ ap ordinal (root_here r p h);
                  children = λ r p h. (ap (λ (n : Node). n.children.first) (is r p h), sym (ap (λ (n : Node). n.children.last) (is r p h)));
                  cells = λ r p h. (ap (λ (n : Node). n.cells.first) (is r p h), sym (ap (λ (n : Node). n.cells.last) (is r p h)));
                  values = λ k l. absurd (omega arith);
                  order = λ j l. absurd (omega arith);
                };
          };
      opens = subst (λ ss. Open (root ∷ []) ss start) (sym first) (inl (refl, refl, refl));
      depth = omega arith;
      places = long;
    }
  where
    one : (r : ℕ) (p : Path) → Home (root ∷ []) r p → r ≡ 1
    one r p h = omega (arith, h.0, h.1)

    is : (r : ℕ) (p : Path) → Home (root ∷ []) r p → node (sheets d.tables) r ≡ blank_node
    is r p h = rw (one r p h) blank

    root_here : (r : ℕ) (p : Path) → Home (root ∷ []) r p → root ≡ p
    root_here r p h = rw (one r p h) at h.2

-- the record of a new root is blank, where the table has one
pub root-blank : (ns : List Node) → get_or (rooted ns blank_node) 1 blank_node ≡ blank_node
root-blank ns = ⊎_elim
    (λ l. ap (λ xs. get_or xs 1 blank_node) (cond-true (ltb 1 (length ns)) (set ns 1 blank_node) ns (lt-ltb 1 (length ns) l)) ∙ get_or-set_same ns 1 blank_node blank_node (omega arith))
    (λ l. ap (λ xs. get_or xs 1 blank_node) (cond-false (ltb 1 (length ns)) (set ns 1 blank_node) ns (le-ltb 1 (length ns) l)) ∙ get_or_past ns 1 blank_node (omega arith))
    (cases_lt 1 (length ns))

-- and so is that of a table that was made of others by a record that is blank
pub root-put : {made : List Node} (ns : List Node) (put : Node) → made ≡ rooted ns put → put ≡ blank_node → get_or made 1 blank_node ≡ blank_node
root-put ns put is blank = ap (λ xs. get_or xs 1 blank_node) (is ∙ ap (rooted ns) blank) ∙ root-blank ns
