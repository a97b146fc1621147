-- The tables after a value: they hold one entry more.
use Rattle.std.proofs.Common.{◌≡◌, ℕ, suc, ◌+◌, ◌<◌, ◌≤◌, Bool, true, false, cond, eqb, ◌≢◌, ◌⊎◌, List, [], ◌∷◌, ◌++◌, length, get_or, take, drop, sym, refl, ap, ◌∙◌, subst, inl, inr, ⊎_elim, append_assoc, arith, length-append}
use lib.Seq.{take-length}
use Rattle.std.specs.List.{AllByRecursion}
use Rattle.std.specs.declared.option.Option.TheVariants as options
use Rattle.std.proofs.lemmas.List.{append-nil}
use Rattle.std.proofs.ByRecursion.{All-append}
use Rattle.std.proofs.lemmas.Bool.{cond-true, cond-false, eq-eqb, ne_eqb, cases_Bool}
use Rattle.chain.proofs.Tables.{length-adjust}
use Rattle.document.specs.Calls.{total, extent, Value, scalar, text, unit, none, some, variant, seq, map, tuple, kind, Kind, SCALAR, TEXT, SEQ, MAP, ENUM, UNIT, TUPLE, cell, num, str}
use Rattle.document.specs.Nodes.{Path, root, ◌▹◌, Step, alt, same}
use Rattle.document.specs.Entries.{Entry, entry, at}
use Rattle.document.specs.Bytes.{firsts}
use Rattle.document.specs.Tables.{cells, letters_of, unbranched, branch, branch_of}
use Rattle.document.specs.Records.{nodes_of, brought, marked, new_child, had, times}
use Rattle.document.proofs.Paths.{same_self, same_true, not-child, total-append}
use Rattle.document.proofs.Between.{is_nil, at_on, at_off}
use Rattle.document.proofs.Allotting.{once, length-brought}
use Rattle.document.proofs.Growth.{nodes-snoc, firsts-snoc, firsts-fewer, firsts-few, unmarked-childless, branch-there, letters-more}
use Rattle.nodes.specs.declared.marks.Mark.{Mark}
use Rattle.nodes.specs.Marks.{mark_number, family_of, mark_of, mark_at}
use Rattle.nodes.specs.Homes.{Home, ordinal, is_child, places}
use Rattle.nodes.proofs.Homes.{home-times}
use Rattle.nodes.proofs.Homes.{home-more, home-new}
use Rattle.nodes.proofs.Families.{family-takes, brought-at}
use Rattle.ser.specs.Brings.{index_of}
use Rattle.ser.specs.Moves.{Sheets, node, is_fresh, with_mark, with_order, named, touched, branched, branch_then}
use Rattle.ser.specs.Held.{Slot, slotted, slots_of, is_held, Holding, Holds}
use Rattle.ser.proofs.Moving.{Alone, put_at, put-there, put-elsewhere, names, spawns, stored, stores}
use Rattle.ser.proofs.Growing.{alone_of, alone-front, places-none, childless, cellless, slots-snoc, brought-kin, New, brothers, grows}

-- the same tables, with what they hold said otherwise
pub recast : (T : Sheets) (ns ms : List Path) (mark mark' : Path → Mark) (sum sum' : Path → ℕ) (sl sl' : List Slot) (fs fs' : List Path) (letters letters' : ℕ)
    → ns ≡ ms → ((q : Path) → mark q ≡ mark' q) → ((q : Path) → sum q ≡ sum' q) → sl ≡ sl' → fs ≡ fs' → letters ≡ letters'
    → Holding T ns mark sum sl fs letters → Holding T ms mark' sum' sl' fs' letters'
recast T ns ms mark mark' sum sum' sl sl' fs fs' letters letters' e m s c f l H =
    subst (λ x. Holding T x mark' sum' sl' fs' letters') e (subst (λ x. Holding T ns mark' sum' x fs' letters') c (subst (λ x. Holding T ns mark' sum' sl x letters') f (subst (λ x. Holding T ns mark' sum' sl fs x) l
    (record { used = H.used; taken = H.taken; filled = H.filled; marked = H.marked; marks = λ r p h. H.marks r p h ∙ m p; sums = λ r p h. H.sums r p h ∙ s p; indices = H.indices; children = H.children; cells = H.cells; values = H.values; order = H.order }))))

-- a marked node is not without a value
pub some-mark : (K : Kind) → eqb (mark_number (mark_of K)) 0 ≡ false
some-mark (SCALAR k) = ne_eqb _ 0 (λ e. omega arith)
some-mark TEXT = refl
some-mark SEQ = refl
some-mark MAP = refl
some-mark ENUM = refl
some-mark UNIT = refl
some-mark (TUPLE n) = ne_eqb _ 0 (λ e. omega arith)

-- the index of a value, as the definitions and as the code have it
pub indexed : (v : Value) → ((branch_of v ≡ unbranched) × (index_of v ≡ options.None)) ⊎ ((i : ℕ) × (branch_of v ≡ branch i) × (index_of v ≡ options.Some i))
indexed (scalar k b) = inl (refl, refl)
indexed (text bs) = inl (refl, refl)
indexed unit = inl (refl, refl)
indexed none = inr (0, refl, refl)
indexed some = inr (1, refl, refl)
indexed (variant i) = inr (i, refl, refl)
indexed (seq n) = inl (refl, refl)
indexed (map n) = inl (refl, refl)
indexed (tuple n) = inl (refl, refl)

-- the child of a value's index as it was found: there is none and k is 0, or k is its record
abbrev pub Found : List Path → ℕ → Path → Value → Type 0
Found ns k p v = (i : ℕ) → index_of v ≡ options.Some i → ((times (p ▹ alt i) ns ≡ 0) × (k ≡ 0)) ⊎ Home ns k (p ▹ alt i)

module _ (T : Sheets) (ts : List Entry) (H : Holds T ts) (r : ℕ) (p : Path) (home : Home (nodes_of ts) r p) (v : Value) (seen : (q : Path) → at q ts ≢ [] → times q (nodes_of ts) ≡ 1) where
  -- a node without a record has no value
  unseen : (q : Path) → times q (nodes_of ts) ≡ 0 → at q ts ≡ []
  unseen q z = go (at q ts) refl
    where
      go : (vs : List Value) → at q ts ≡ vs → at q ts ≡ []
      go [] e = e
      go (u ∷ us) e = absurd (omega (arith, z, seen q (λ n. cc)))

  -- another node's values stay
  others : (q : Path) → (p ≡ q → ⊥) → at q (ts ++ entry p v ∷ []) ≡ at q ts
  others q ne = go (same p q) refl
    where
      go : (b : Bool) → same p q ≡ b → at q (ts ++ entry p v ∷ []) ≡ at q ts
      go true e = absurd (ne (same_true p q e))
      go false e = at_off p q v ts e

  -- p is no child of its own
  not_own : (s : Step) → p ≡ p ▹ s → ⊥
  not_own s e = let n = not-child p s in let k = ap (same p) (sym e) ∙ same_self p in cc

  once-here : times p (nodes_of ts) ≡ 1
  once-here = omega (arith, once p ts, home-times (nodes_of ts) r p home)

  -- a child without a record is new
  new-child : (mark : Path → Mark) → ((q : Path) → (p ≡ q → ⊥) → mark q ≡ mark_at (at q ts)) → (s : Step) → times (p ▹ s) (nodes_of ts) ≡ 0 → New p (nodes_of ts) mark (λ q. total extent (at q ts)) (slots_of ts) (p ▹ s)
  new-child mark as-was s z =
      let nil = unseen (p ▹ s) z in
      record {
        child = same_self p;
        unmarked = as-was (p ▹ s) (not_own s) ∙ ap mark_at nil;
        empty = ap (total extent) nil;
        cell-less = places-none (is_held (p ▹ s)) 1 (slots_of ts) (cellless ts (p ▹ s) nil);
        child-less = childless ts (p ▹ s) nil;
      }

  -- ---- the first value marks its node

  -- the tables once p is marked
  abbrev pub Touched : Sheets → Type 0
  Touched U = Holding U (nodes_of ts ++ marked (at p ts) p (kind v)) (λ q. mark_at (at q (ts ++ entry p v ∷ []))) (λ q. total extent (at q ts)) (slots_of ts) (firsts (ts ++ entry p v ∷ [])) (letters_of ts)

  pub touches : T.used + length (marked (at p ts) p (kind v)) ≤ length T.nodes → Touched (touched r (mark_of (kind v)) T)
  touches room = go (at p ts) refl
    where
      marked-at : (node T r).mark ≡ mark_at (at p ts)
      marked-at = H.holding.marks r p home

      go : (vs : List Value) → at p ts ≡ vs → Touched (touched r (mark_of (kind v)) T)
      go [] e =
          let K = kind v in
          let fresh : is_fresh T r ≡ true = ap (λ m. eqb (mark_number m) 0) (marked-at ∙ ap mark_at e) in
          let brings : marked (at p ts) p K ≡ brought p K = ap (λ vs. marked vs p K) e in
          let size = ap length brings ∙ length-brought p K in
          let few = firsts-fewer ts seen p once-here e in
          let used = H.holding.used in
          let within = home.1 in
          let long = H.holding.marked in
          let lengths : length (named r (mark_of K) T).nodes ≡ length T.nodes = length-adjust (with_order r) (T.marked + 1) _ ∙ length-adjust (with_mark (mark_of K)) r T.nodes in
          let N = names T (nodes_of ts) (λ q. mark_at (at q ts)) (λ q. total extent (at q ts)) (slots_of ts) (firsts ts) (letters_of ts) (alone_of ts) H.holding r p home (mark_of K) (omega arith) (omega arith) in
          let alone : Alone (nodes_of ts ++ brought p K) = alone-front (nodes_of ts ++ brought p K) (new_child (had (λ i. false) (at p ts)) p (branch_of v))
          (subst Alone (nodes-snoc ts (entry p v) ∙ ap (λ l. nodes_of ts ++ (l ++ new_child (had (λ i. false) (at p ts)) p (branch_of v))) brings ∙ sym (append_assoc (nodes_of ts) (brought p K) (new_child (had (λ i. false) (at p ts)) p (branch_of v)))) (alone_of (ts ++ entry p v ∷ []))) in
          let G = grows (named r (mark_of K) T) (nodes_of ts) (put_at p (mark_of K) (λ q. mark_at (at q ts))) (λ q. total extent (at q ts)) (slots_of ts) (firsts ts ++ p ∷ []) (letters_of ts) r p (brought p K)
          alone N home (each-new e) (brought-kin p K) (omega arith) (omega (arith, length-append (firsts ts) (p ∷ [])))
          (family_of (mark_of K)) (omega (arith, family-takes K, length-brought p K)) (omega (arith, family-takes K)) in
          let all : take (family_of (mark_of K)) (brought p K) ≡ brought p K = ap (λ n. take n (brought p K)) (family-takes K ∙ sym (length-brought p K)) ∙ take-length (brought p K) in
          subst Touched (sym (cond-true (is_fresh T r) _ T fresh))
          (recast _ _ _ _ _ _ _ _ _ _ _ _ _ (ap (λ l. nodes_of ts ++ l) (all ∙ sym brings)) (marks_then e) (λ q. refl) refl (sym (firsts-snoc p v ts ∙ ap (λ vs. cond (is_nil vs) (firsts ts ++ p ∷ []) (firsts ts)) e)) refl G)
        where
          each-new : at p ts ≡ [] → (j : ℕ) → j < length (brought p (kind v)) → New p (nodes_of ts) (put_at p (mark_of (kind v)) (λ q. mark_at (at q ts))) (λ q. total extent (at q ts)) (slots_of ts) (get_or (brought p (kind v)) j root) × (ordinal (get_or (brought p (kind v)) j root) ≡ j)
          each-new e j h =
              let b = brought-at p (kind v) j (omega (arith, length-brought p (kind v))) in
              let N = new-child (put_at p (mark_of (kind v)) (λ q. mark_at (at q ts))) (λ q ne. put-elsewhere p q (mark_of (kind v)) (λ q. mark_at (at q ts)) ne) b.0 (unmarked-childless ts p b.0 e) in
              (subst (New p (nodes_of ts) (put_at p (mark_of (kind v)) (λ q. mark_at (at q ts))) (λ q. total extent (at q ts)) (slots_of ts)) (sym b.1) N, ap ordinal b.1 ∙ b.2)

          marks_then : at p ts ≡ [] → (q : Path) → put_at p (mark_of (kind v)) (λ q. mark_at (at q ts)) q ≡ mark_at (at q (ts ++ entry p v ∷ []))
          marks_then e q = go' (same p q) refl
            where
              go' : (b : Bool) → same p q ≡ b → put_at p (mark_of (kind v)) (λ q. mark_at (at q ts)) q ≡ mark_at (at q (ts ++ entry p v ∷ []))
              go' true k = let i = same_true p q k in put-there p q (mark_of (kind v)) (λ q. mark_at (at q ts)) i ∙ ap mark_at (sym (ap (λ x. at x (ts ++ entry p v ∷ [])) (sym i) ∙ at_on p v ts ∙ ap (λ vs. vs ++ v ∷ []) e))
              go' false k = cond-false (same p q) _ _ k ∙ ap mark_at (sym (at_off p q v ts k))
      go (u ∷ us) e =
          let stale : is_fresh T r ≡ false = ap (λ m. eqb (mark_number m) 0) (marked-at ∙ ap mark_at e) ∙ some-mark (kind u) in
          let brings : marked (at p ts) p (kind v) ≡ [] = ap (λ vs. marked vs p (kind v)) e in
          subst Touched (sym (cond-false (is_fresh T r) _ T stale))
          (recast _ _ _ _ _ _ _ _ _ _ _ _ _ (sym (ap (λ l. nodes_of ts ++ l) brings ∙ append-nil (nodes_of ts))) marks-still (λ q. refl) refl (sym (firsts-snoc p v ts ∙ ap (λ vs. cond (is_nil vs) (firsts ts ++ p ∷ []) (firsts ts)) e)) refl H.holding)
        where
          marks-still : (q : Path) → mark_at (at q ts) ≡ mark_at (at q (ts ++ entry p v ∷ []))
          marks-still q = go' (same p q) refl
            where
              go' : (b : Bool) → same p q ≡ b → mark_at (at q ts) ≡ mark_at (at q (ts ++ entry p v ∷ []))
              go' true k = let i = same_true p q k in ap (λ x. mark_at (at x ts)) (sym i) ∙ ap mark_at e ∙ sym (ap mark_at (ap (λ x. at x (ts ++ entry p v ∷ [])) (sym i) ∙ at_on p v ts ∙ ap (λ vs. vs ++ v ∷ []) e))
              go' false k = ap mark_at (sym (at_off p q v ts k))

  -- ---- a new index gets a record

  -- the tables once the index has its record
  abbrev pub Branched : Sheets → Type 0
  Branched U = Holding U (nodes_of (ts ++ entry p v ∷ [])) (λ q. mark_at (at q (ts ++ entry p v ∷ []))) (λ q. total extent (at q ts)) (slots_of ts) (firsts (ts ++ entry p v ∷ [])) (letters_of ts)

  -- the nodes with no new index, and with one
  nodes-old : new_child (had (λ i. false) (at p ts)) p (branch_of v) ≡ [] → nodes_of ts ++ marked (at p ts) p (kind v) ≡ nodes_of (ts ++ entry p v ∷ [])
  nodes-old e = sym (nodes-snoc ts (entry p v) ∙ ap (λ l. nodes_of ts ++ (marked (at p ts) p (kind v) ++ l)) e ∙ ap (λ l. nodes_of ts ++ l) (append-nil (marked (at p ts) p (kind v))))

  nodes-new : (q : Path) → new_child (had (λ i. false) (at p ts)) p (branch_of v) ≡ q ∷ [] → (nodes_of ts ++ marked (at p ts) p (kind v)) ++ q ∷ [] ≡ nodes_of (ts ++ entry p v ∷ [])
  nodes-new q e = append_assoc (nodes_of ts) (marked (at p ts) p (kind v)) (q ∷ []) ∙ sym (nodes-snoc ts (entry p v) ∙ ap (λ l. nodes_of ts ++ (marked (at p ts) p (kind v) ++ l)) e)

  -- the children that a mark brings are children
  family-kin : AllByRecursion (λ x. is_child p x ≡ true) (marked (at p ts) p (kind v))
  family-kin = go (at p ts)
    where
      go : (vs : List Value) → AllByRecursion (λ x. is_child p x ≡ true) (marked vs p (kind v))
      go [] = brought-kin p (kind v)
      go (u ∷ us) = tt

  -- fewer nodes are marked than have a record
  few-then : (U : Sheets) → Touched U → length (firsts (ts ++ entry p v ∷ [])) < U.used
  few-then U G = go (at p ts) refl
    where
      go : (vs : List Value) → at p ts ≡ vs → length (firsts (ts ++ entry p v ∷ [])) < U.used
      go [] e = omega (arith, G.used, length-append (nodes_of ts) (marked (at p ts) p (kind v)), firsts-fewer ts seen p once-here e, ap length (firsts-snoc p v ts ∙ ap (λ vs. cond (is_nil vs) (firsts ts ++ p ∷ []) (firsts ts)) e), length-append (firsts ts) (p ∷ []))
      go (u ∷ us) e = omega (arith, G.used, length-append (nodes_of ts) (marked (at p ts) p (kind v)), firsts-few ts seen, ap length (firsts-snoc p v ts ∙ ap (λ vs. cond (is_nil vs) (firsts ts ++ p ∷ []) (firsts ts)) e))

  -- what was found of the index, and the tables then
  pub branches : (k : ℕ) → Found (nodes_of ts) k p v → (U : Sheets) → Touched U → r < length U.nodes
      → (new_child (had (λ i. false) (at p ts)) p (branch_of v) ≢ [] → U.used < length U.nodes)
      → Branched (branched r k (index_of v) U) × ((i : ℕ) → index_of v ≡ options.Some i → Home (nodes_of (ts ++ entry p v ∷ [])) (branch_then k (index_of v) U) (p ▹ alt i))
  branches k found U G l room = ⊎_elim plain with-index (indexed v)
    where
      plain : (branch_of v ≡ unbranched) × (index_of v ≡ options.None) → Branched (branched r k (index_of v) U) × ((i : ℕ) → index_of v ≡ options.Some i → Home (nodes_of (ts ++ entry p v ∷ [])) (branch_then k (index_of v) U) (p ▹ alt i))
      plain (b, o) = (
        subst (λ x. Branched (branched r k x U)) (sym o) (recast _ _ _ _ _ _ _ _ _ _ _ _ _ (nodes-old (ap (new_child (had (λ i. false) (at p ts)) p) b)) (λ q. refl) (λ q. refl) refl refl refl G),
        λ i e. cc,
      )

      with-index : (i : ℕ) × (branch_of v ≡ branch i) × (index_of v ≡ options.Some i) → Branched (branched r k (index_of v) U) × ((i : ℕ) → index_of v ≡ options.Some i → Home (nodes_of (ts ++ entry p v ∷ [])) (branch_then k (index_of v) U) (p ▹ alt i))
      with-index (i, b, o) = ⊎_elim new there (found i o)
        where
          only : (j : ℕ) → index_of v ≡ options.Some j → i ≡ j
          only j e = cc

          there : Home (nodes_of ts) k (p ▹ alt i) → Branched (branched r k (index_of v) U) × ((i : ℕ) → index_of v ≡ options.Some i → Home (nodes_of (ts ++ entry p v ∷ [])) (branch_then k (index_of v) U) (p ▹ alt i))
          there h =
              let ne : eqb k 0 ≡ false = ne_eqb k 0 (λ z. omega (arith, h.0)) in
              let had-it : had (λ j. false) (at p ts) i ≡ true = ⊎_elim (λ t. t) (λ f. absurd (omega (arith, home-times (nodes_of ts) k (p ▹ alt i) h, branch-there ts p i, ap (λ x. cond {A = ℕ} x 1 0) f))) (cases_Bool (had (λ j. false) (at p ts) i)) in
              let old : new_child (had (λ i. false) (at p ts)) p (branch_of v) ≡ [] = ap (new_child (had (λ i. false) (at p ts)) p) b ∙ ap (λ x. cond x [] ((p ▹ alt i) ∷ [])) had-it in (
                subst (λ x. Branched (branched r k x U)) (sym o) (subst Branched (sym (cond-false (eqb k 0) _ U ne)) (recast _ _ _ _ _ _ _ _ _ _ _ _ _ (nodes-old old) (λ q. refl) (λ q. refl) refl refl refl G)),
                λ j e. subst (λ m. Home (nodes_of (ts ++ entry p v ∷ [])) m (p ▹ alt j)) (sym (ap (λ x. branch_then k x U) o ∙ cond-false (eqb k 0) _ k ne))
                    (subst (λ x. Home (nodes_of (ts ++ entry p v ∷ [])) k (p ▹ alt x)) (only j e) (subst (λ ns. Home ns k (p ▹ alt i)) (nodes-old old) (home-more (nodes_of ts) (marked (at p ts) p (kind v)) k (p ▹ alt i) h))),
              )

          new : (times (p ▹ alt i) (nodes_of ts) ≡ 0) × (k ≡ 0) → Branched (branched r k (index_of v) U) × ((i : ℕ) → index_of v ≡ options.Some i → Home (nodes_of (ts ++ entry p v ∷ [])) (branch_then k (index_of v) U) (p ▹ alt i))
          new (z, e0) =
              let q = p ▹ alt i in
              let is : eqb k 0 ≡ true = eq-eqb k 0 e0 in
              let nil = unseen q z in
              let had-not : had (λ j. false) (at p ts) i ≡ false = ⊎_elim (λ t. absurd (omega (arith, z, branch-there ts p i, ap (λ x. cond {A = ℕ} x 1 0) t))) (λ f. f) (cases_Bool (had (λ j. false) (at p ts) i)) in
              let one : new_child (had (λ i. false) (at p ts)) p (branch_of v) ≡ q ∷ [] = ap (new_child (had (λ i. false) (at p ts)) p) b ∙ ap (λ x. cond x [] ((p ▹ alt i) ∷ [])) had-not in
              let there-is : new_child (had (λ i. false) (at p ts)) p (branch_of v) ≢ [] = λ n. cc in
              let front : Alone (nodes_of ts ++ marked (at p ts) p (kind v)) = alone-front (nodes_of ts ++ marked (at p ts) p (kind v)) (q ∷ []) (subst Alone (sym (nodes-new q one)) (alone_of (ts ++ entry p v ∷ []))) in
              let none : places (is_child q) 1 ((nodes_of ts ++ marked (at p ts) p (kind v)) ++ q ∷ []) ≡ [] = places-none (is_child q) 1 ((nodes_of ts ++ marked (at p ts) p (kind v)) ++ q ∷ [])
              (All-append (λ x. is_child q x ≡ false) (nodes_of ts ++ marked (at p ts) p (kind v)) (q ∷ []) (All-append (λ x. is_child q x ≡ false) (nodes_of ts) (marked (at p ts) p (kind v)) (childless ts q nil) (off (marked (at p ts) p (kind v)) family-kin)) (brothers p q q (same_self p) (same_self p), tt)) in
              let S = spawns U (nodes_of ts ++ marked (at p ts) p (kind v)) (λ q. mark_at (at q (ts ++ entry p v ∷ []))) (λ q. total extent (at q ts)) (slots_of ts) (firsts (ts ++ entry p v ∷ [])) (letters_of ts) front G r p (home-more (nodes_of ts) (marked (at p ts) p (kind v)) r p home) q i (same_self p) refl (ap mark_at (others q (not_own (alt i)) ∙ nil)) (ap (total extent) nil)
              (places-none (is_held q) 1 (slots_of ts) (cellless ts q nil)) none l (room there-is) few in (
                subst (λ x. Branched (branched r k x U)) (sym o) (subst Branched (sym (cond-true (eqb k 0) _ U is)) (recast _ _ _ _ _ _ _ _ _ _ _ _ _ (nodes-new q one) (λ q. refl) (λ q. refl) refl refl refl S)),
                λ j e. subst (λ m. Home (nodes_of (ts ++ entry p v ∷ [])) m (p ▹ alt j)) (sym (ap (λ x. branch_then k x U) o ∙ cond-true (eqb k 0) _ k is ∙ G.used))
                    (subst (λ x. Home (nodes_of (ts ++ entry p v ∷ [])) (1 + length (nodes_of ts ++ marked (at p ts) p (kind v))) (p ▹ alt x)) (only j e) (subst (λ ns. Home ns (1 + length (nodes_of ts ++ marked (at p ts) p (kind v))) (p ▹ alt i)) (nodes-new q one) (home-new (nodes_of ts ++ marked (at p ts) p (kind v)) q))),
              )
            where
              off : (xs : List Path) → AllByRecursion (λ x. is_child p x ≡ true) xs → AllByRecursion (λ x. is_child (p ▹ alt i) x ≡ false) xs
              off [] a = tt
              off (x ∷ xs) a = (brothers p (p ▹ alt i) x (same_self p) a.0, off xs a.1)

              few : length (firsts (ts ++ entry p v ∷ [])) < U.used
              few = few-then U G

  -- ---- the value goes to its cell

  -- the sums with one value more
  sums-then : (q : Path) → put_at p (total extent (at p ts) + extent v) (λ q. total extent (at q ts)) q ≡ total extent (at q (ts ++ entry p v ∷ []))
  sums-then q = go (same p q) refl
    where
      sum-on : total extent (at p (ts ++ entry p v ∷ [])) ≡ total extent (at p ts) + extent v
      sum-on = ap (total extent) (at_on p v ts) ∙ total-append extent (at p ts) (v ∷ []) ∙ omega arith

      go : (b : Bool) → same p q ≡ b → put_at p (total extent (at p ts) + extent v) (λ q. total extent (at q ts)) q ≡ total extent (at q (ts ++ entry p v ∷ []))
      go true k = let i = same_true p q k in put-there p q _ (λ q. total extent (at q ts)) i ∙ sym sum-on ∙ ap (λ x. total extent (at x (ts ++ entry p v ∷ []))) i
      go false k = cond-false (same p q) _ _ k ∙ ap (total extent) (sym (at_off p q v ts k))

  letters-then : letters_of (ts ++ entry p v ∷ []) ≡ letters_of ts + length (str (cell v))
  letters-then = letters-more ts (entry p v ∷ []) ∙ omega arith

  -- a value without a cell
  pub keeps-none : cells v ≡ 0 → extent v ≡ 0 → str (cell v) ≡ [] → (U : Sheets) → Branched U → Holds U (ts ++ entry p v ∷ [])
  keeps-none c x s U G = record { holding = recast _ _ _ _ _ _ _ _ _ _ _ _ _ refl (λ q. refl) still (sym (slots-snoc ts (entry p v) ∙ ap (λ n. slots_of ts ++ slotted (entry p v) n) c ∙ append-nil (slots_of ts))) refl (omega (arith, letters-then, ap length s)) G }
    where
      still : (q : Path) → total extent (at q ts) ≡ total extent (at q (ts ++ entry p v ∷ []))
      still q = go (same p q) refl
        where
          go : (b : Bool) → same p q ≡ b → total extent (at q ts) ≡ total extent (at q (ts ++ entry p v ∷ []))
          go true k = let i = same_true p q k in ap (λ y. total extent (at y ts)) (sym i) ∙ omega (arith, x, ap (total extent) (at_on p v ts) ∙ total-append extent (at p ts) (v ∷ [])) ∙ ap (λ y. total extent (at y (ts ++ entry p v ∷ []))) i
          go false k = ap (total extent) (sym (at_off p q v ts k))

  -- a value with one cell, or two
  pub keeps-some : (m : ℕ) → cells v ≡ suc m → length (slotted (entry p v) (suc m)) ≡ suc m → (U : Sheets) → Branched U → r < length U.nodes → U.taken < length U.cells
      → (txt : List ℕ) (size : ℕ) → ((s n : ℕ) → s + n ≤ U.filled → take n (drop s txt) ≡ take n (drop s U.text)) → U.filled + length (str (cell v)) ≡ size → take (length (str (cell v))) (drop U.filled txt) ≡ str (cell v)
      → Holds (stored r (num (cell v)) (suc m) (extent v) txt size U) (ts ++ entry p v ∷ [])
  keeps-some m c long U G l l' txt size kept room piece =
      let S = stores U _ _ _ _ _ _ (alone_of (ts ++ entry p v ∷ [])) G r p home-then (entry p v) m (num (cell v)) (extent v) txt size refl refl long kept (omega arith) piece l l' in
      record { holding = recast _ _ _ _ _ _ _ _ _ _ _ _ _ refl (λ q. refl) sums-then (sym (slots-snoc ts (entry p v) ∙ ap (λ n. slots_of ts ++ slotted (entry p v) n) c)) refl (omega (arith, letters-then, G.filled)) S }
    where
      home-then : Home (nodes_of (ts ++ entry p v ∷ [])) r p
      home-then = subst (λ ns. Home ns r p) (sym (nodes-snoc ts (entry p v))) (home-more (nodes_of ts) _ r p home)
