-- What the record of a node holds stays true while the tables change elsewhere.
use Rattle.std.proofs.Common.{◌≡◌, ℕ, ◌+◌, ◌-◌, ◌≤◌, false, List, map as each, length, get_or, min, ltb, take, drop, sym, refl, ap, ◌∙◌, subst, subst₂, ap₂, arith}
use Rattle.std.proofs.lemmas.List.{drop-take, take-take}
use Rattle.document.specs.Calls.{total, Kind, SCALAR, TEXT, SEQ, MAP, ENUM, UNIT, TUPLE, Cell, number}
use Rattle.document.specs.Nodes.{Path, ◌▹◌, elem, key, value, field, alt, demand}
use Rattle.document.specs.Reader.{Node, fresh, ready, Store}
use Rattle.nodes.specs.Homes.{Home, is_child, places, Threads}
use Rattle.de.specs.declared.records.Node.{Node as Row}
use Rattle.de.specs.Moves.{Sheets, node, root_node}
use Rattle.de.specs.Reads.{Lies, all_of, Values, Children, Kept, Reads}
use Rattle.de.specs.Served.{Spared}
use Rattle.de.proofs.Growing.{Alike, alike-same}

-- lists that agree up to a place agree in each part before it
pub take_within : (a f n : ℕ) (new old : List ℕ) → take a new ≡ take a old → f + n ≤ a → take n (drop f new) ≡ take n (drop f old)
take_within a f n new old e h =
    sym (drop-take f n new) ∙ ap (drop f) (sym (take-take (f + n) a new h) ∙ ap (take (f + n)) e ∙ take-take (f + n) a old h) ∙ drop-take f n old

-- the values of an ENUM node lie in what is taken
pub enum_within : (T : Sheets) (s : ℕ) (x : Row) (cs : List Cell) (K : Kind) → K ≡ ENUM → Values T s x K cs → x.first + x.count ≤ T.taken
enum_within T s x cs K e v = let w = subst (λ J. Values T s x J cs) e v in w.0.within

-- The tables go on from one state to another: what is taken stays, nodes keep their records, and the branches of q without a record do not change.
pub record GoesOn (T : Sheets) (ps : List Path) (S : Store) (T' : Sheets) (ps' : List Path) (S' : Store) (q : Path) : Type 0 where
  pub taken : T.taken ≤ T'.taken
  pub place : T.place ≤ T'.place
  pub slots : take T.taken T'.slots ≡ take T.taken T.slots
  pub homes : (r : ℕ) (p : Path) → Home ps r p → Home ps' r p
  pub branches : (i : ℕ) → S'.made (q ▹ alt i) ≡ false → (S.made (q ▹ alt i) ≡ false) × (S'.nodes (q ▹ alt i) ≡ S.nodes (q ▹ alt i))

module _ (T : Sheets) (ps : List Path) (S : Store) (T' : Sheets) (ps' : List Path) (S' : Store) (q : Path) (on : GoesOn T ps S T' ps' S' q) (x y : Row) where
  -- all values of a node are as they were
  all_on : y.first ≡ x.first → y.count ≡ x.count → x.first + x.count ≤ T.taken → all_of T' y ≡ all_of T x
  all_on first count h =
      ap (λ k. each number (take k (drop y.first T'.slots))) count
      ∙ ap (λ k. each number (take x.count (drop k T'.slots))) first
      ∙ ap (each number) (take_within T.taken x.first x.count T'.slots T.slots on.slots h)

  -- its children too
  pub children_on : y.first ≡ x.first → y.count ≡ x.count → y.children ≡ x.children → (K : Kind) → (K ≡ ENUM → x.first + x.count ≤ T.taken) → Children T ps S q x K → Children T' ps' S' q y K
  children_on f c e (SCALAR k) l h = tt
  children_on f c e TEXT l h = tt
  children_on f c e SEQ l h = subst (λ d. Home ps' d.first (q ▹ elem)) (sym e) (on.homes _ _ h)
  children_on f c e MAP l (h, k) = (subst (λ d. Home ps' d.first (q ▹ key)) (sym e) (on.homes _ _ h), subst (λ d. Home ps' (d.first + 1) (q ▹ value)) (sym e) (on.homes _ _ k))
  children_on f c e ENUM l h = λ i m. let b = on.branches i m in b.1 ∙ h i b.0 ∙ ap (λ all. fresh (total (demand ENUM (alt i)) all)) (sym (all_on f c (l refl)))
  children_on f c e UNIT l h = tt
  children_on f c e (TUPLE m) l h = λ j b. subst (λ d. Home ps' (d.first + j) (q ▹ field j)) (sym e) (on.homes _ _ (h j b))

  -- the values that are left lie where they lay
  lies_on : y.first ≡ x.first → y.done ≡ x.done → y.count ≡ x.count → (cs : List Cell) → x.done + length cs ≡ x.count → Lies T x cs → Lies T' y cs
  lies_on f d c cs n l =
      let here : y.first + y.done ≡ x.first + x.done = omega arith in
      record {
        within = omega (arith, l.within, on.taken);
        left = l.left ∙ sym (ap (λ k. take (length cs) (drop k T'.slots)) here ∙ take_within T.taken (x.first + x.done) (length cs) T'.slots T.slots on.slots (omega (arith, l.within)));
      }

  -- so does what is left of its values
  pub values_on : y.first ≡ x.first → y.done ≡ x.done → y.count ≡ x.count → y.text ≡ x.text → (s s' : ℕ) → s' ≡ s → (K : Kind) (cs : List Cell) → x.done + length cs ≡ x.count → Values T s x K cs → Values T' s' y K cs
  values_on f d c t s s' e (SCALAR k) cs n (l, b) = (lies_on f d c cs n l, b)
  values_on f d c t s s' e TEXT cs n (l, b, w, z) = (lies_on f d c cs n l, t ∙ b ∙ sym e, omega (arith, w, on.place), z)
  values_on f d c t s s' e SEQ cs n l = lies_on f d c cs n l
  values_on f d c t s s' e MAP cs n l = lies_on f d c cs n l
  values_on f d c t s s' e ENUM cs n (l, b) = (lies_on f d c cs n l, b)
  values_on f d c t s s' e UNIT cs n v = tt
  values_on f d c t s s' e (TUPLE m) cs n v = tt

  -- so the record holds the same of the node
  pub kept_on : Alike y x → S'.texts q ≡ S.texts q → (n : Node) → Kept T ps S q x n → Kept T' ps' S' q y n
  kept_on a t (fresh n) (m, c) = (a.mark ∙ m, a.count ∙ c)
  kept_on a t (ready K cs) (m, n, v, h) =
      (a.mark ∙ m, omega (arith, n, a.done, a.count), values_on a.first a.done a.count a.text (S.texts q) (S'.texts q) t K cs n v, children_on a.first a.count a.children K (λ e. enum_within T (S.texts q) x cs K e v) h)

-- ---- slots that are not taken

-- equal tables are spared
pub spared-same : (T T' : Sheets) → T' ≡ T → Spared T T'
spared-same T T' e = rw e (record { nodes = refl; used = refl; taken = refl; place = refl; columns = refl; size = refl; slots = refl })

-- Tables that are as they were, but for slots that are not taken, stand for what they stood for.
pub reads_spared : (T T' : Sheets) (ps : List Path) (input : List ℕ) (S : Store) → Reads T ps input S → Spared T T' → Reads T' ps input S
reads_spared T T' ps input S h s =
    record {
      linked = record {
        used = s.used ∙ h.linked.used;
        first = h.linked.first;
        once = h.linked.once;
        indices = λ r p home. ap (λ x. x.index) (same r) ∙ h.linked.indices r p home;
        children = λ r p home. subst₂ (λ ns x. Threads (each (λ y. y.next) ns) x.children (places (is_child p) 1 ps)) (sym s.nodes) (sym (same r)) (h.linked.children r p home);
      };
      rooted = h.rooted ∙ sym (ap (λ ns. ltb 1 (length ns)) s.nodes);
      records = h.records ∙ sym (ap₂ (λ ns u. min (length ns) 65536 - u) s.nodes s.used);
      room = λ e. let l = ap length s.nodes in let r = h.room e in omega arith;
      slots = h.slots ∙ sym (ap₂ (λ n t. min n 1048576 - t) s.size s.taken);
      taken = let n = s.size in let t = h.taken in omega arith;
      rest = h.rest ∙ sym (ap (λ k. drop k input) s.place);
      place = h.place ∙ sym s.place;
      within = omega (arith, s.place, h.within);
      columns = h.columns ∙ sym s.columns;
      few = omega (arith, s.columns, h.few);
      made = h.made;
      making = h.making;
      fathers = h.fathers;
      homes = h.homes;
      kept = λ r p home. kept_on T ps S T' ps S p (on p) (node T r) (node T' r) (alike-same (node T' r) (node T r) (same r)) refl (S.nodes p) (h.kept r p home);
    }
  where
    same : (r : ℕ) → node T' r ≡ node T r
    same r = ap (λ ns. get_or ns r root_node) s.nodes

    on : (q : Path) → GoesOn T ps S T' ps S q
    on q =
        record {
          taken = omega (arith, s.taken);
          place = omega (arith, s.place);
          slots = s.slots;
          homes = λ r p home. home;
          branches = λ i m. (m, refl);
        }
