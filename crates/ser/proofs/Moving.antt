-- What the tables hold after each move.
use Rattle.std.proofs.Common.{◌≡◌, ℕ, zero, suc, ◌+◌, ◌-◌, ◌<◌, ◌≤◌, Bool, true, false, cond, eqb, ◌⊎◌, List, [], ◌∷◌, ◌++◌, map as each, length, get_or, take, drop, sym, refl, ap, ◌∙◌, subst, inl, inr, ⊎_elim, append_assoc, arith, length-append, get_or-append-add}
use lib.Seq.{get_or-append_seam}
use Rattle.std.proofs.lemmas.List.{get_or_append_left, length-map}
use Rattle.std.proofs.lemmas.Bool.{cases_eq, cases_lt, cond-true, cond-false, eq-eqb, ne_eqb, cases_Bool}
use Rattle.chain.specs.declared.Chain.{Chain}
use Rattle.chain.specs.Chains.{longer, appended, adjust}
use Rattle.chain.proofs.Tables.{length-adjust, get_or-adjust-same, get_or-adjust-other, adjust-keeps, length-appended, appended-keeps, nexts-appended}
use Rattle.document.specs.Calls.{cell, num, str}
use Rattle.document.specs.Nodes.{Path, root, same}
use Rattle.document.specs.Entries.{Entry}
use Rattle.document.proofs.Paths.{same_self, same_true}
use Rattle.nodes.specs.declared.marks.Mark.{Mark}
use Rattle.nodes.specs.declared.marks.Mark.TheVariants.{Unmarked}
use Rattle.nodes.specs.Homes.{Home, ordinal, is_child, places, Threads}
use Rattle.nodes.proofs.Threading.{threads-on, threads-off, places-skip}
use Rattle.nodes.proofs.Homes.{home-more, home-cases, home-one, child-one}
use Rattle.ser.specs.declared.records.Node.{Node}
use Rattle.ser.specs.declared.records.Cell.{Cell}
use Rattle.ser.specs.Moves.{Sheets, node, cell_at, blank_node, blank_cell, no_chain, child, with_next, with_mark, with_sum, with_children, with_cells, with_order, cell_with_next, spawned, named}
use Rattle.ser.specs.Held.{Slot, holds, spare, is_held, slotted, node_nexts, cell_nexts, Keeps, Holding}

-- no node has two records
abbrev pub Alone : List Path → Type 0
Alone ns = (i j : ℕ) (p : Path) → Home ns i p → Home ns j p → i ≡ j

-- a function with another value at a node
abbrev pub put_at : {Y : Type 0} → Path → Y → (Path → Y) → Path → Y
put_at p y f q = cond (same p q) y (f q)

-- the same node, or another
same_cases : (p q : Path) → (p ≡ q) ⊎ (same p q ≡ false)
same_cases p q = go (same p q) refl
  where
    go : (b : Bool) → same p q ≡ b → (p ≡ q) ⊎ (same p q ≡ false)
    go true e = inl (same_true p q e)
    go false e = inr e

-- there ..
pub put-there : {Y : Type 0} (p q : Path) (y : Y) (f : Path → Y) → p ≡ q → put_at p y f q ≡ y
put-there p q y f e = cond-true (same p q) y (f q) (ap (same p) (sym e) ∙ same_self p)

-- .. and elsewhere
pub put-elsewhere : {Y : Type 0} (p q : Path) (y : Y) (f : Path → Y) → (p ≡ q → ⊥) → put_at p y f q ≡ f q
put-elsewhere p q y f ne = ⊎_elim (λ e. absurd (ne e)) (λ e. cond-false (same p q) y (f q) e) (same_cases p q)

-- a projection that a change keeps is kept in all records
each_keeps : {X Y : Type 0} (g : X → Y) (f : X → X) → ((x : X) → g (f x) ≡ g x) → (i : ℕ) (xs : List X) → each g (adjust f i xs) ≡ each g xs
each_keeps g f h i [] = refl
each_keeps g f h zero (x ∷ xs) = ap (λ y. y ∷ each g xs) (h x)
each_keeps g f h (suc i) (x ∷ xs) = ap (λ ys. g x ∷ ys) (each_keeps g f h i xs)

-- a chain over the same next indices
threads-same : (ns ms : List ℕ) (c d : Chain) (is : List ℕ) → ms ≡ ns → d ≡ c → Threads ns c is → Threads ms d is
threads-same ns ms c d is e f h = subst (λ ks. Threads ks d is) (sym e) (subst (λ o. Threads ns o is) (sym f) h)

module _ (T : Sheets) (ns : List Path) (mark : Path → Mark) (sum : Path → ℕ) (sl : List Slot) (fs : List Path) (letters : ℕ) (alone : Alone ns) (H : Holding T ns mark sum sl fs letters) (r : ℕ) (p : Path) (home : Home ns r p) where
  -- a record of another node is another
  elsewhere : (k : ℕ) (q : Path) → Home ns k q → (k ≡ r → ⊥) → p ≡ q → ⊥
  elsewhere k q h ne e = ne (alone k r q h (subst (Home ns r) e home))

  -- r is marked
  pub names : (m : Mark) → r < length T.nodes → T.marked + 1 < length T.nodes → Holding (named r m T) ns (put_at p m mark) sum sl (fs ++ p ∷ []) letters
  names m l l' = record {
    used = H.used;
    taken = H.taken;
    filled = H.filled;
    marked = omega (arith, H.marked, length-append fs (p ∷ []));
    marks = λ k q h. keeps-order (λ n. n.mark) (λ x. refl) k ∙ ⊎_elim
        (λ e. ap (λ i. (get_or (adjust (with_mark m) r T.nodes) i blank_node).mark) e ∙ ap (λ n. n.mark) (get_or-adjust-same (with_mark m) r T.nodes blank_node l) ∙ sym (put-there p q m mark (home-one ns r p q home (subst (λ i. Home ns i q) e h))))
        (λ ne. ap (λ n. n.mark) (get_or-adjust-other (with_mark m) r k T.nodes blank_node ne) ∙ H.marks k q h ∙ sym (put-elsewhere p q m mark (elsewhere k q h ne)))
        (cases_eq k r);
    sums = λ k q h. keeps (λ n. n.sum) (λ x. refl) (λ x. refl) k ∙ H.sums k q h;
    indices = λ k q h. keeps (λ n. n.index) (λ x. refl) (λ x. refl) k ∙ H.indices k q h;
    children = λ k q h. threads-same _ _ _ _ _ nexts (keeps (λ n. n.children) (λ x. refl) (λ x. refl) k) (H.children k q h);
    cells = λ k q h. threads-same _ _ _ _ _ refl (keeps (λ n. n.cells) (λ x. refl) (λ x. refl) k) (H.cells k q h);
    values = H.values;
    order = λ j h. ⊎_elim (old j) (new j h) (cases_lt j (length fs));
  }
    where
      T' : Sheets
      T' = named r m T

      keeps-order : {Y : Type 0} (g : Node → Y) → ((x : Node) → g (with_order r x) ≡ g x) → (k : ℕ) → g (node (named r m T) k) ≡ g (get_or (adjust (with_mark m) r T.nodes) k blank_node)
      keeps-order g f k = adjust-keeps g (with_order r) f (T.marked + 1) k (adjust (with_mark m) r T.nodes) blank_node

      keeps : {Y : Type 0} (g : Node → Y) → ((x : Node) → g (with_order r x) ≡ g x) → ((x : Node) → g (with_mark m x) ≡ g x) → (k : ℕ) → g (node (named r m T) k) ≡ g (node T k)
      keeps g f h k = keeps-order g f k ∙ adjust-keeps g (with_mark m) h r k T.nodes blank_node

      nexts : node_nexts (named r m T) ≡ node_nexts T
      nexts = each_keeps (λ n. n.next) (with_order r) (λ x. refl) (T.marked + 1) (adjust (with_mark m) r T.nodes) ∙ each_keeps (λ n. n.next) (with_mark m) (λ x. refl) r T.nodes

      old : (j : ℕ) → j < length fs → Home ns (node (named r m T) (suc j)).order (get_or (fs ++ p ∷ []) j root)
      old j h =
          let ne : suc j ≡ T.marked + 1 → ⊥ = λ e. omega (arith, H.marked) in
          let o = ap (λ n. n.order) (get_or-adjust-other (with_order r) (T.marked + 1) (suc j) (adjust (with_mark m) r T.nodes) blank_node ne) ∙ adjust-keeps (λ n. n.order) (with_mark m) (λ x. refl) r (suc j) T.nodes blank_node in
          subst (λ k. Home ns k (get_or (fs ++ p ∷ []) j root)) (sym o) (subst (Home ns (node T (suc j)).order) (sym (get_or_append_left fs (p ∷ []) root j h)) (H.order j h))

      new : (j : ℕ) → j < length (fs ++ p ∷ []) → length fs ≤ j → Home ns (node (named r m T) (suc j)).order (get_or (fs ++ p ∷ []) j root)
      new j h k =
          let n : j ≡ length fs = omega (arith, length-append fs (p ∷ [])) in
          let at : suc j ≡ T.marked + 1 = omega (arith, H.marked) in
          let o = ap (λ i. (node (named r m T) i).order) at ∙ ap (λ n. n.order) (get_or-adjust-same (with_order r) (T.marked + 1) (adjust (with_mark m) r T.nodes) blank_node (omega (arith, length-adjust (with_mark m) r T.nodes))) in
          subst (λ i. Home ns i (get_or (fs ++ p ∷ []) j root)) (sym o) (subst (Home ns r) (sym (ap (λ i. get_or (fs ++ p ∷ []) i root) n ∙ get_or-append_seam fs p [] root)) home)

  -- a new child of r gets a record
  pub spawns : (q : Path) (i : ℕ) → is_child p q ≡ true → ordinal q ≡ i → mark q ≡ Unmarked → sum q ≡ 0 → places (is_held q) 1 sl ≡ [] → places (is_child q) 1 (ns ++ q ∷ []) ≡ []
      → r < length T.nodes → T.used < length T.nodes → length fs < T.used → Holding (spawned r i T) (ns ++ q ∷ []) mark sum sl fs letters
  spawns q i is ord fresh nil empty childless l l' few = record {
    used = omega (arith, H.used, length-append ns (q ∷ []));
    taken = H.taken;
    filled = H.filled;
    marked = H.marked;
    marks = λ k s h. ⊎_elim (λ o. past (λ n. n.mark) (λ x n. refl) (λ c x. refl) k s o ∙ H.marks k s o) (λ e. here (λ n. n.mark) (λ x n. refl) (λ c x. refl) k e.0 ∙ sym fresh ∙ ap mark (sym e.1)) (home-cases ns q k s h);
    sums = λ k s h. ⊎_elim (λ o. past (λ n. n.sum) (λ x n. refl) (λ c x. refl) k s o ∙ H.sums k s o) (λ e. here (λ n. n.sum) (λ x n. refl) (λ c x. refl) k e.0 ∙ sym nil ∙ ap sum (sym e.1)) (home-cases ns q k s h);
    indices = λ k s h. ⊎_elim (λ o. past (λ n. n.index) (λ x n. refl) (λ c x. refl) k s o ∙ H.indices k s o) (λ e. here (λ n. n.index) (λ x n. refl) (λ c x. refl) k e.0 ∙ sym ord ∙ ap ordinal (sym e.1)) (home-cases ns q k s h);
    children = λ k s h. ⊎_elim (old k s) (new k s) (home-cases ns q k s h);
    cells = λ k s h. ⊎_elim
        (λ o. threads-same _ _ _ _ _ refl (past (λ n. n.cells) (λ x n. refl) (λ c x. refl) k s o) (H.cells k s o))
        (λ e. threads-same _ _ no_chain _ _ refl (here (λ n. n.cells) (λ x n. refl) (λ c x. refl) k e.0) (subst (Threads (cell_nexts T) no_chain) (sym (ap (λ x. places (is_held x) 1 sl) e.1 ∙ empty)) (refl, refl)))
        (home-cases ns q k s h);
    values = H.values;
    order = λ j h. subst (λ k. Home (ns ++ q ∷ []) k (get_or fs j root)) (sym (field_of (λ n. n.order) (λ x n. refl) (λ c x. refl) (suc j) ∙ cond-false (eqb (suc j) T.used) _ _ (ne_eqb (suc j) T.used (λ e. omega arith)))) (home-more ns (q ∷ []) _ _ (H.order j h));
  }
    where
      ch : Chain
      ch = (node T r).children

      -- what neither a link nor a longer chain of children changes
      field_of : {Y : Type 0} (g : Node → Y) → ((x : Node) (n : ℕ) → g (with_next x n) ≡ g x) → ((c : Chain) (x : Node) → g (with_children c x) ≡ g x) → (k : ℕ)
          → g (node (spawned r i T) k) ≡ cond (eqb k T.used) (g (child i)) (g (node T k))
      field_of g f h k =
          adjust-keeps g (with_children (longer (node T r).children T.used)) (h (longer (node T r).children T.used)) r k (appended with_next T.nodes (node T r).children.last T.used (child i)) blank_node
          ∙ appended-keeps with_next T.nodes (node T r).children.last T.used (child i) g f k blank_node l'

      past : {Y : Type 0} (g : Node → Y) → ((x : Node) (n : ℕ) → g (with_next x n) ≡ g x) → ((c : Chain) (x : Node) → g (with_children c x) ≡ g x) → (k : ℕ) (s : Path) → Home ns k s → g (node (spawned r i T) k) ≡ g (node T k)
      past g f h k s o = field_of g f h k ∙ cond-false (eqb k T.used) _ _ (ne_eqb k T.used (λ e. omega (arith, H.used, o.1)))

      here : {Y : Type 0} (g : Node → Y) → ((x : Node) (n : ℕ) → g (with_next x n) ≡ g x) → ((c : Chain) (x : Node) → g (with_children c x) ≡ g x) → (k : ℕ) → k ≡ 1 + length ns → g (node (spawned r i T) k) ≡ g (child i)
      here g f h k e = field_of g f h k ∙ cond-true (eqb k T.used) _ _ (eq-eqb k T.used (omega (arith, H.used)))

      nexts : node_nexts (spawned r i T) ≡ appended (λ _ n. n) (node_nexts T) (node T r).children.last T.used 0
      nexts = each_keeps (λ n. n.next) (with_children (longer (node T r).children T.used)) (λ x. refl) r (appended with_next T.nodes (node T r).children.last T.used (child i))
          ∙ nexts-appended with_next T.nodes (node T r).children.last T.used (child i) (λ n. n.next) (λ x n. refl)

      -- the children of a record that is not r
      apart : (k : ℕ) → (k ≡ r → ⊥) → (k ≡ T.used → ⊥) → (node (spawned r i T) k).children ≡ (node T k).children
      apart k ne nu =
          ap (λ n. n.children) (get_or-adjust-other (with_children (longer (node T r).children T.used)) r k (appended with_next T.nodes (node T r).children.last T.used (child i)) blank_node ne)
          ∙ appended-keeps with_next T.nodes (node T r).children.last T.used (child i) (λ n. n.children) (λ x n. refl) k blank_node l'
          ∙ cond-false (eqb k T.used) _ _ (ne_eqb k T.used nu)

      Shape : ℕ → Path → Type 0
      Shape k s = Threads (node_nexts (spawned r i T)) (node (spawned r i T) k).children (places (is_child s) 1 (ns ++ q ∷ []))

      old : (k : ℕ) (s : Path) → Home ns k s → Threads (node_nexts (spawned r i T)) (node (spawned r i T) k).children (places (is_child s) 1 (ns ++ q ∷ []))
      old k s o = ⊎_elim
          (λ e. let same-node : s ≡ p = home-one ns r s p (subst (λ j. Home ns j s) e o) home in
          let chain : (node (spawned r i T) k).children ≡ longer (node T r).children T.used = ap (λ j. (node (spawned r i T) j).children) e
          ∙ ap (λ n. n.children) (get_or-adjust-same (with_children (longer (node T r).children T.used)) r (appended with_next T.nodes (node T r).children.last T.used (child i)) blank_node (omega (arith, length-appended with_next T.nodes (node T r).children.last T.used (child i)))) in
          threads-same _ _ _ _ _ nexts chain (subst (λ x. Threads (appended (λ _ n. n) (node_nexts T) (node T r).children.last T.used 0) (longer (node T r).children T.used) (places (is_child x) 1 (ns ++ q ∷ []))) (sym same-node)
          (threads-on (is_child p) (node_nexts T) (node T r).children ns q T.used H.used (omega (arith, length-map T.nodes (λ n. n.next))) is (H.children r p home))))
          (λ ne. let other : is_child s q ≡ false = ⊎_elim (λ e. absurd (elsewhere k s o ne (child-one p s q is e))) (λ e. e) (cases_Bool (is_child s q)) in
          threads-same _ _ _ _ _ nexts (apart k ne (λ e. omega (arith, H.used, o.1)))
          (threads-off (is_child p) (is_child s) (λ x a b. elsewhere k s o ne (child-one p s x a b)) (node_nexts T) (node T r).children (node T k).children ns q root T.used H.used other (H.children r p home) (H.children k s o)))
          (cases_eq k r)

      new : (k : ℕ) (s : Path) → (k ≡ 1 + length ns) × (s ≡ q) → Threads (node_nexts (spawned r i T)) (node (spawned r i T) k).children (places (is_child s) 1 (ns ++ q ∷ []))
      new k s (e, f) =
          let ne : k ≡ r → ⊥ = λ z. omega (arith, home.1) in
          let none : (node (spawned r i T) k).children ≡ no_chain =
          ap (λ n. n.children) (get_or-adjust-other (with_children (longer (node T r).children T.used)) r k (appended with_next T.nodes (node T r).children.last T.used (child i)) blank_node ne)
          ∙ appended-keeps with_next T.nodes (node T r).children.last T.used (child i) (λ n. n.children) (λ x n. refl) k blank_node l'
          ∙ cond-true (eqb k T.used) _ _ (eq-eqb k T.used (omega (arith, H.used))) in
          threads-same _ _ no_chain _ _ refl none (subst (Threads (node_nexts (spawned r i T)) no_chain) (sym (ap (λ x. places (is_child x) 1 (ns ++ q ∷ [])) f ∙ childless)) (refl, refl))

-- ---- cells

-- what a spare cell does not pass is as it is with the first cell alone
places-slotted : (test : Slot → Bool) → test spare ≡ false → (e : Entry) (m : ℕ) (sl : List Slot) → places test 1 (sl ++ slotted e (suc m)) ≡ places test 1 (sl ++ holds e ∷ [])
places-slotted test no-spare e zero sl = refl
places-slotted test no-spare e (suc m) sl = ap (places test 1) (sym (append_assoc sl (holds e ∷ []) (spare ∷ []))) ∙ places-skip test 1 (sl ++ holds e ∷ []) spare no-spare

-- after its first cell a value has spare ones only
after_first : (e : Entry) (m j : ℕ) → get_or (slotted e (suc m)) (suc j) spare ≡ spare
after_first e zero j = refl
after_first e (suc m) zero = refl
after_first e (suc m) (suc j) = refl

-- the record of a value's cell
abbrev pub new_cell : ℕ → ℕ → Cell
new_cell v start = record { value = v; start = start; next = 0 }

-- a value goes to a cell, and its letters to the text
abbrev pub stored : ℕ → ℕ → ℕ → ℕ → List ℕ → ℕ → Sheets → Sheets
stored r v more x letters size T =
    record {
      nodes = adjust (with_cells (longer (node T r).cells T.taken)) r (adjust (with_sum x) r T.nodes);
      cells = appended cell_with_next T.cells (node T r).cells.last T.taken (record { value = v; start = T.filled; next = 0 });
      text = letters;
      used = T.used;
      taken = T.taken + more;
      filled = size;
      marked = T.marked;
    }

module _ (T : Sheets) (ns : List Path) (mark : Path → Mark) (sum : Path → ℕ) (sl : List Slot) (fs : List Path) (letters : ℕ) (alone : Alone ns) (H : Holding T ns mark sum sl fs letters) (r : ℕ) (p : Path) (home : Home ns r p) where
  -- r holds one value more
  pub stores : (e : Entry) (m v x : ℕ) (txt : List ℕ) (size : ℕ) → e.node ≡ p → num (cell e.said) ≡ v → length (slotted e (suc m)) ≡ suc m
      → ((s n : ℕ) → s + n ≤ T.filled → take n (drop s txt) ≡ take n (drop s T.text)) → T.filled + length (str (cell e.said)) ≤ size → take (length (str (cell e.said))) (drop T.filled txt) ≡ str (cell e.said)
      → r < length T.nodes → T.taken < length T.cells
      → Holding (stored r v (suc m) x txt size T) ns mark (put_at p (sum p + x) sum) (sl ++ slotted e (suc m)) fs size
  stores e m v x txt size is value-is long kept room piece l l' = record {
    used = H.used;
    taken = omega (arith, H.taken, length-append sl (slotted e (suc m)));
    filled = refl;
    marked = H.marked;
    marks = λ k q h. keeps (λ n. n.mark) (λ c x. refl) (λ y x. refl) k ∙ H.marks k q h;
    sums = λ k q h. adjust-keeps (λ n. n.sum) (with_cells (longer (node T r).cells T.taken)) (λ x. refl) r k (adjust (with_sum x) r T.nodes) blank_node ∙ ⊎_elim
        (λ i. ap (λ j. (get_or (adjust (with_sum x) r T.nodes) j blank_node).sum) i ∙ ap (λ n. n.sum) (get_or-adjust-same (with_sum x) r T.nodes blank_node l)
        ∙ ap (λ n. n + x) (H.sums r p home) ∙ sym (put-there p q (sum p + x) sum (home-one ns r p q home (subst (λ j. Home ns j q) i h))))
        (λ ne. ap (λ n. n.sum) (get_or-adjust-other (with_sum x) r k T.nodes blank_node ne) ∙ H.sums k q h ∙ sym (put-elsewhere p q (sum p + x) sum (elsewhere k q h ne)))
        (cases_eq k r);
    indices = λ k q h. keeps (λ n. n.index) (λ c x. refl) (λ y x. refl) k ∙ H.indices k q h;
    children = λ k q h. threads-same _ _ _ _ _ node-nexts (keeps (λ n. n.children) (λ c x. refl) (λ y x. refl) k) (H.children k q h);
    cells = λ k q h. subst (Threads (cell_nexts (stored r v (suc m) x txt size T)) (node (stored r v (suc m) x txt size T) k).cells) (sym (places-slotted (is_held q) refl e m sl)) (⊎_elim (own k q h) (other k q h) (cases_eq k r));
    values = λ k h. ⊎_elim (old k) (λ n. ⊎_elim (λ i. subst (Keeps (stored r v (suc m) x txt size T) (suc k)) (sym (at_new k i)) (new k i)) (λ ne. subst (Keeps (stored r v (suc m) x txt size T) (suc k)) (sym (at-spare k (omega arith))) tt) (cases_eq k (length sl))) (cases_lt k (length sl));
    order = λ j h. subst (λ k. Home ns k (get_or fs j root)) (sym (keeps (λ n. n.order) (λ c x. refl) (λ y x. refl) (suc j))) (H.order j h);
  }
    where
      elsewhere : (k : ℕ) (q : Path) → Home ns k q → (k ≡ r → ⊥) → p ≡ q → ⊥
      elsewhere k q h ne i = ne (alone k r q h (subst (Home ns r) i home))

      keeps : {Y : Type 0} (g : Node → Y) → ((c : Chain) (n : Node) → g (with_cells c n) ≡ g n) → ((y : ℕ) (n : Node) → g (with_sum y n) ≡ g n) → (k : ℕ) → g (node (stored r v (suc m) x txt size T) k) ≡ g (node T k)
      keeps g a b k = adjust-keeps g (with_cells (longer (node T r).cells T.taken)) (a (longer (node T r).cells T.taken)) r k (adjust (with_sum x) r T.nodes) blank_node ∙ adjust-keeps g (with_sum x) (b x) r k T.nodes blank_node

      node-nexts : node_nexts (stored r v (suc m) x txt size T) ≡ node_nexts T
      node-nexts = each_keeps (λ n. n.next) (with_cells (longer (node T r).cells T.taken)) (λ x. refl) r (adjust (with_sum x) r T.nodes) ∙ each_keeps (λ n. n.next) (with_sum x) (λ x. refl) r T.nodes

      nexts : cell_nexts (stored r v (suc m) x txt size T) ≡ appended (λ _ n. n) (cell_nexts T) (node T r).cells.last T.taken 0
      nexts = nexts-appended cell_with_next T.cells (node T r).cells.last T.taken (new_cell v T.filled) (λ c. c.next) (λ c n. refl)

      holds-it : (q : Path) → q ≡ p → is_held q (holds e) ≡ true
      holds-it q i = ap (λ a. same a q) (is ∙ sym i) ∙ same_self q

      own : (k : ℕ) (q : Path) → Home ns k q → k ≡ r → Threads (cell_nexts (stored r v (suc m) x txt size T)) (node (stored r v (suc m) x txt size T) k).cells (places (is_held q) 1 (sl ++ holds e ∷ []))
      own k q h i =
          let at_p : q ≡ p = home-one ns r q p (subst (λ j. Home ns j q) i h) home in
          let chain : (node (stored r v (suc m) x txt size T) k).cells ≡ longer (node T r).cells T.taken = ap (λ j. (node (stored r v (suc m) x txt size T) j).cells) i
          ∙ ap (λ n. n.cells) (get_or-adjust-same (with_cells (longer (node T r).cells T.taken)) r (adjust (with_sum x) r T.nodes) blank_node (omega (arith, length-adjust (with_sum x) r T.nodes))) in
          threads-same _ _ _ _ _ nexts chain (subst (λ a. Threads (appended (λ _ n. n) (cell_nexts T) (node T r).cells.last T.taken 0) (longer (node T r).cells T.taken) (places (is_held a) 1 (sl ++ holds e ∷ []))) (sym at_p)
          (threads-on (is_held p) (cell_nexts T) (node T r).cells sl (holds e) T.taken H.taken (omega (arith, length-map T.cells (λ c. c.next))) (holds-it p refl) (H.cells r p home)))

      held_one : (q : Path) (z : Slot) → is_held p z ≡ true → is_held q z ≡ true → p ≡ q
      held_one q (holds d) a b = sym (same_true d.node p a) ∙ same_true d.node q b
      held_one q spare a b = cc

      other : (k : ℕ) (q : Path) → Home ns k q → (k ≡ r → ⊥) → Threads (cell_nexts (stored r v (suc m) x txt size T)) (node (stored r v (suc m) x txt size T) k).cells (places (is_held q) 1 (sl ++ holds e ∷ []))
      other k q h ne =
          let skip : is_held q (holds e) ≡ false = ⊎_elim (λ t. absurd (elsewhere k q h ne (held_one q (holds e) (holds-it p refl) t))) (λ t. t) (cases_Bool (is_held q (holds e))) in
          let chain : (node (stored r v (suc m) x txt size T) k).cells ≡ (node T k).cells =
          ap (λ n. n.cells) (get_or-adjust-other (with_cells (longer (node T r).cells T.taken)) r k (adjust (with_sum x) r T.nodes) blank_node ne) ∙ adjust-keeps (λ n. n.cells) (with_sum x) (λ x. refl) r k T.nodes blank_node in
          threads-same _ _ _ _ _ nexts chain
          (threads-off (is_held p) (is_held q) (λ z a b. elsewhere k q h ne (held_one q z a b)) (cell_nexts T) (node T r).cells (node T k).cells sl (holds e) spare T.taken H.taken skip (H.cells r p home) (H.cells k q h))

      -- the cells as they were
      cell_field : {Y : Type 0} (g : Cell → Y) → ((c : Cell) (n : ℕ) → g (cell_with_next c n) ≡ g c) → (k : ℕ) → g (cell_at (stored r v (suc m) x txt size T) k) ≡ cond (eqb k T.taken) (g (new_cell v T.filled)) (g (cell_at T k))
      cell_field g f k = appended-keeps cell_with_next T.cells (node T r).cells.last T.taken (new_cell v T.filled) g f k blank_cell l'

      before : {Y : Type 0} (g : Cell → Y) → ((c : Cell) (n : ℕ) → g (cell_with_next c n) ≡ g c) → (k : ℕ) → k < length sl → g (cell_at (stored r v (suc m) x txt size T) (suc k)) ≡ g (cell_at T (suc k))
      before g f k h = cell_field g f (suc k) ∙ cond-false (eqb (suc k) T.taken) _ _ (ne_eqb (suc k) T.taken (λ i. omega (arith, H.taken)))

      still : (k : ℕ) → k < length sl → (z : Slot) → Keeps T (suc k) z → Keeps (stored r v (suc m) x txt size T) (suc k) z
      still k h (holds d) (a, b, c) =
          let start : (cell_at (stored r v (suc m) x txt size T) (suc k)).start ≡ (cell_at T (suc k)).start = before (λ c. c.start) (λ c n. refl) k h in
          (before (λ c. c.value) (λ c n. refl) k h ∙ a, omega (arith, room), ap (λ s. take (length (str (cell d.said))) (drop s txt)) start ∙ kept (cell_at T (suc k)).start (length (str (cell d.said))) b ∙ c)
      still k h spare u = tt

      old : (k : ℕ) → k < length sl → Keeps (stored r v (suc m) x txt size T) (suc k) (get_or (sl ++ slotted e (suc m)) k spare)
      old k h = subst (Keeps (stored r v (suc m) x txt size T) (suc k)) (sym (get_or_append_left sl (slotted e (suc m)) spare k h)) (still k h (get_or sl k spare) (H.values k h))

      at_new : (k : ℕ) → k ≡ length sl → get_or (sl ++ slotted e (suc m)) k spare ≡ holds e
      at_new k i = ap (λ j. get_or (sl ++ slotted e (suc m)) j spare) i ∙ first m
        where
          first : (n : ℕ) → get_or (sl ++ slotted e (suc n)) (length sl) spare ≡ holds e
          first zero = get_or-append_seam sl (holds e) [] spare
          first (suc n) = get_or-append_seam sl (holds e) (spare ∷ []) spare

      at-spare : (k : ℕ) → length sl < k → get_or (sl ++ slotted e (suc m)) k spare ≡ spare
      at-spare k h =
          let j : k ≡ length sl + suc (k - suc (length sl)) = omega arith in
          ap (λ i. get_or (sl ++ slotted e (suc m)) i spare) j ∙ get_or-append-add sl (slotted e (suc m)) (suc (k - suc (length sl))) spare ∙ after_first e m (k - suc (length sl))

      here : {Y : Type 0} (g : Cell → Y) → ((c : Cell) (n : ℕ) → g (cell_with_next c n) ≡ g c) → (k : ℕ) → k ≡ length sl → g (cell_at (stored r v (suc m) x txt size T) (suc k)) ≡ g (new_cell v T.filled)
      here g f k i = cell_field g f (suc k) ∙ cond-true (eqb (suc k) T.taken) _ _ (eq-eqb (suc k) T.taken (omega (arith, H.taken)))

      new : (k : ℕ) → k ≡ length sl → Keeps (stored r v (suc m) x txt size T) (suc k) (holds e)
      new k i =
          let start : (cell_at (stored r v (suc m) x txt size T) (suc k)).start ≡ T.filled = here (λ c. c.start) (λ c n. refl) k i in
          (here (λ c. c.value) (λ c n. refl) k i ∙ sym value-is, omega arith, ap (λ s. take (length (str (cell e.said))) (drop s txt)) start ∙ piece)
