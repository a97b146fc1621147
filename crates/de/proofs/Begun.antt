-- A new reader's tables stand for a new state.
use Rattle.std.proofs.Common.{◌≡◌, ℕ, ◌<◌, true, false, List, [], ◌∷◌, length, min, drop, sym, refl, ap, ◌∙◌, subst₂, ⊎_elim, arith}
use Rattle.std.proofs.lemmas.List.{get_or_past}
use Rattle.std.proofs.lemmas.Bool.{cases_lt, ltb-true}
use Rattle.std.proofs.lemmas.Bool.Decides.{nat_tests}
use Rattle.document.specs.Nodes.{Path, root, ◌▹◌, Step, alt}
use Rattle.document.specs.Tables.{usable_nodes}
use Rattle.document.specs.Reader.{unread, begin}
use Rattle.nodes.specs.Homes.{node_of, Home, ordinal, is_child, places, Threads}
use Rattle.de.specs.declared.records.Node.{Node as Row}
use Rattle.de.specs.Moves.{Sheets, node, root_node}
use Rattle.de.specs.Reads.{nexts, is_ready, Kept, Linked, Reads}

-- the only record is the root's
only_root : (r : ℕ) (p : Path) → Home (root ∷ []) r p → (r ≡ 1) × (p ≡ root)
only_root r p h = let e : r ≡ 1 = omega (arith, h.0, h.1) in (e, sym h.2 ∙ ap (node_of (root ∷ [])) e)

-- past the table's end stands the root's record
pub root-row : (T : Sheets) → (1 < length T.nodes → node T 1 ≡ root_node) → node T 1 ≡ root_node
root-row T is = ⊎_elim is (λ l. get_or_past T.nodes 1 root_node l) (cases_lt 1 (length T.nodes))

-- the root's record alone is linked
pub begun-linked : (T : Sheets) → T.used ≡ 2 → node T 1 ≡ root_node → Linked T (root ∷ [])
begun-linked T used is =
    record {
      used = used;
      first = (omega arith, omega arith, refl);
      once = λ r s p h k. (only_root r p h).0 ∙ sym (only_root s p k).0;
      indices = λ r p h. ap (λ (x : Row). x.index) (there r p h) ∙ ap ordinal (sym (only_root r p h).1);
      children = λ r p h. subst₂ (λ (x : Row) q. Threads (nexts T) x.children (places (is_child q) 1 (root ∷ []))) (sym (there r p h)) (sym (only_root r p h).1) (refl, refl);
    }
  where
    there : (r : ℕ) (p : Path) → Home (root ∷ []) r p → node T r ≡ root_node
    there r p h = ap (node T) (only_root r p h).0 ∙ is

-- Tables with the root's record alone and nothing read stand for the store of a new reader.
pub begun : (T : Sheets) (input : List ℕ) → T.used ≡ 2 → T.taken ≡ min 1 (length T.slots) → T.place ≡ 0 → T.columns ≡ 0 → (1 < length T.nodes → node T 1 ≡ root_node)
    → Reads T (root ∷ []) input (begin (length T.nodes) (length T.slots) input).store
begun T input used taken place columns is =
    record {
      linked = begun-linked T used (root-row T is);
      rooted = grind (arith, nat_tests);
      records = omega (arith, used);
      room = λ e. let l = ltb-true 0 (usable_nodes (length T.nodes)) e in omega (arith, used);
      slots = omega (arith, taken);
      taken = omega (arith, taken);
      rest = sym (ap (λ k. drop k input) place);
      place = sym place;
      within = omega (arith, place);
      columns = sym columns;
      few = omega (arith, columns);
      made = λ p i e. absurd (no e);
      making = λ r p i h. absurd (childless r p (alt i) h);
      fathers = λ r p s h. absurd (childless r p s h);
      homes = λ q e. absurd (no (sym (unread-yet q) ∙ e));
      kept = λ r p h. let (e, f) = only_root r p h in subst₂ (λ (x : Row) q. Kept T (root ∷ []) (begin (length T.nodes) (length T.slots) input).store q x (unread q)) (sym (ap (node T) e ∙ root-row T is)) (sym f) (refl, refl);
    }
  where
    no : false ≡ true → ⊥
    no e = cc

    childless : (r : ℕ) (p : Path) (s : Step) → Home (root ∷ []) r (p ▹ s) → ⊥
    childless r p s h = let e = (only_root r (p ▹ s) h).1 in cc

    unread-yet : (q : Path) → is_ready (unread q) ≡ false
    unread-yet root = refl
    unread-yet (q ▹ s) = refl
