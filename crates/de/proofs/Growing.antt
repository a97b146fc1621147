-- What new children leave in the records, and that the records stay linked.
use Rattle.std.proofs.Common.{◌≡◌, ℕ, zero, suc, ◌+◌, ◌-◌, ◌<◌, ◌≤◌, ◌≢◌, true, false, eqb, ◌⊎◌, List, [], ◌∷◌, ◌++◌, map as each, length, get_or, take, set, sym, refl, ap, ◌∙◌, subst, subst₂, inl, inr, ⊎_elim, append_assoc, arith, length-append, get_or-append-add, take-suc}
use Rattle.std.proofs.Math.ListN.{get_or-map}
use Rattle.std.proofs.Math.Seq.{map-set_same, take-length}
use Rattle.std.proofs.lemmas.List.{append-nil, length-map, length-take-le, get_or_append_left, get_or-take}
use Rattle.std.proofs.lemmas.Bool.{cases_eq, cases_lt, cases_Bool, cond-true, cond-false, ne_eqb, false≢true}
use Rattle.chain.specs.declared.Chain.{Chain}
use Rattle.chain.specs.Chains.{Runs, longer, appended}
use Rattle.chain.proofs.Tables.{set-adjust, length-adjust, get_or-adjust-same, get_or-adjust-other, length-appended, appended-keeps, get_or-appended-place, nexts-appended}
use Rattle.document.specs.Calls.{Kind}
use Rattle.document.specs.Nodes.{Path, root, ◌▹◌, Step, same}
use Rattle.document.specs.Records.{brought}
use Rattle.document.proofs.Paths.{same_self, not-child}
use Rattle.document.proofs.Allotting.{length-brought}
use Rattle.nodes.specs.Marks.{mark_of, family_of}
use Rattle.nodes.specs.Homes.{node_of, Home, ordinal, is_child, places, Threads}
use Rattle.nodes.proofs.Homes.{home-more, home-cases, home-one, child-one}
use Rattle.nodes.proofs.PlacesOf.{places-none, places-append, places-last}
use Rattle.nodes.proofs.Families.{family-takes, brought-at}
use Rattle.nodes.proofs.Seeking.{child-step}
use Rattle.nodes.proofs.Threading.{threads-on, threads-off}
use Rattle.de.specs.declared.records.Node.{Node as Row}
use Rattle.document.specs.Reader.{Node, fresh, ready, Store}
use Rattle.de.specs.Moves.{Sheets, no_chain, node, root_node, unread, with_next, with_children, spawned, grown, replaced, advanced}
use Rattle.de.specs.Reads.{Fathers, is_ready, nexts, Linked, Reads}

-- ---- records alike

-- two records that differ at most in the one that comes next
pub record Alike (x y : Row) : Type 0 where
  pub mark : x.mark ≡ y.mark
  pub count : x.count ≡ y.count
  pub done : x.done ≡ y.done
  pub first : x.first ≡ y.first
  pub text : x.text ≡ y.text
  pub index : x.index ≡ y.index
  pub children : x.children ≡ y.children

-- they are the same once nothing comes next
pub alike-from : (x y : Row) → with_next x 0 ≡ with_next y 0 → Alike x y
alike-from x y e =
    record {
      mark = ap (λ (z : Row). z.mark) e;
      count = ap (λ (z : Row). z.count) e;
      done = ap (λ (z : Row). z.done) e;
      first = ap (λ (z : Row). z.first) e;
      text = ap (λ (z : Row). z.text) e;
      index = ap (λ (z : Row). z.index) e;
      children = ap (λ (z : Row). z.children) e;
    }

-- a record is like an equal one
pub alike-same : (x y : Row) → x ≡ y → Alike x y
alike-same x y e = alike-from x y (ap (λ z. with_next z 0) e)

-- what is like y is like z if y is
pub alike-trans : (x y z : Row) → Alike x y → Alike y z → Alike x z
alike-trans x y z a b =
    record {
      mark = a.mark ∙ b.mark;
      count = a.count ∙ b.count;
      done = a.done ∙ b.done;
      first = a.first ∙ b.first;
      text = a.text ∙ b.text;
      index = a.index ∙ b.index;
      children = a.children ∙ b.children;
    }

-- two changes of the children are one
pub alike-children : (x y z : Row) (c d : Chain) → Alike x (with_children c y) → Alike y (with_children d z) → Alike x (with_children x.children z)
alike-children x y z c d a b =
    record {
      mark = a.mark ∙ b.mark;
      count = a.count ∙ b.count;
      done = a.done ∙ b.done;
      first = a.first ∙ b.first;
      text = a.text ∙ b.text;
      index = a.index ∙ b.index;
      children = refl;
    }

-- ---- a new child

module _ (r i n : ℕ) (T : Sheets) where
  -- the chain of children and the records once the child is linked
  abbrev chain : Chain
  chain = longer (node T r).children T.used

  abbrev rows : List Row
  rows = appended with_next T.nodes (node T r).children.last T.used (unread i n)

  -- there are as many records as before
  length-rows : length rows ≡ length T.nodes
  length-rows = length-appended with_next T.nodes (node T r).children.last T.used (unread i n)

  -- the table keeps its length
  pub length-spawned : length (spawned r i n T).nodes ≡ length T.nodes
  length-spawned = length-adjust (with_children chain) r rows ∙ length-rows

  -- it is the last one of r
  pub spawned-last : r < length T.nodes → (node (spawned r i n T) r).children.last ≡ T.used
  spawned-last l = ap (λ (x : Row). x.children.last) (get_or-adjust-same (with_children chain) r rows root_node (omega (arith, length-rows)))

  -- the next ones of the records
  pub nexts-spawned : r < length T.nodes → nexts (spawned r i n T) ≡ appended (λ _ k. k) (nexts T) (node T r).children.last T.used 0
  nexts-spawned l =
      ap (each (λ x. x.next)) (sym (set-adjust (with_children chain) rows r root_node (omega (arith, length-rows))))
      ∙ map-set_same (λ x. x.next) rows r _ root_node refl
      ∙ nexts-appended with_next T.nodes (node T r).children.last T.used (unread i n) (λ x. x.next) (λ x k. refl)

  module _ (room : T.used < length T.nodes) where
    -- a record that is not the new one differs at most in the one that comes next
    linked-row : (k : ℕ) → k ≢ T.used → with_next (get_or rows k root_node) 0 ≡ with_next (node T k) 0
    linked-row k ne = appended-keeps with_next T.nodes (node T r).children.last T.used (unread i n) (λ x. with_next x 0) (λ x m. refl) k root_node room ∙ cond-false (eqb k T.used) _ _ (ne_eqb k T.used ne)

    -- every other record is as it was, but for the one that comes next
    pub spawned-others : (k : ℕ) → k ≢ r → k ≢ T.used → Alike (node (spawned r i n T) k) (node T k)
    spawned-others k nr nu = alike-from _ _ (ap (λ x. with_next x 0) (get_or-adjust-other (with_children chain) r k rows root_node nr) ∙ linked-row k nu)

    -- r has a child more
    pub spawned-parent : r < length T.nodes → r ≢ T.used → Alike (node (spawned r i n T) r) (with_children (longer (node T r).children T.used) (node T r))
    spawned-parent l nu = alike-from _ _ (ap (λ x. with_next x 0) (get_or-adjust-same (with_children chain) r rows root_node (omega (arith, length-rows))) ∙ ap (with_children chain) (linked-row r nu))

    -- the child is to be read
    pub spawned-child : r ≢ T.used → (node T r).children.last ≢ T.used → node (spawned r i n T) T.used ≡ unread i n
    spawned-child nr nl =
        get_or-adjust-other (with_children chain) r T.used rows root_node (λ e. nr (sym e))
        ∙ get_or-appended-place with_next T.nodes (node T r).children.last T.used (unread i n) root_node (λ e. nl (sym e)) room

-- ---- the links

-- the children of a node that has a record: the last of them is in use
pub linked-tail : (T : Sheets) (ps : List Path) → Linked T ps → (r : ℕ) (p : Path) → Home ps r p → (node T r).children.last < T.used
linked-tail T ps L r p home = omega (arith, L.used, (L.children r p home).1, places-last (is_child p) 1 ps (omega arith))

-- the links lie in the records, as far as they are used
pub linked-same : (T U : Sheets) (ps : List Path) → U.nodes ≡ T.nodes → U.used ≡ T.used → Linked T ps → Linked U ps
linked-same T U ps e f L =
    record {
      used = f ∙ L.used;
      first = L.first;
      once = L.once;
      indices = λ k q h. ap (λ xs. (get_or xs k root_node).index) e ∙ L.indices k q h;
      children = λ k q h. subst (λ xs. Threads (each (λ x. x.next) xs) (get_or xs k root_node).children (places (is_child q) 1 ps)) (sym e) (L.children k q h);
    }

-- .. so more columns leave them
pub linked-advanced : (T : Sheets) (ps : List Path) (taken place more : ℕ) → Linked T ps → Linked (advanced taken place more T) ps
linked-advanced T ps taken place more L = linked-same T (advanced taken place more T) ps refl refl L

-- what another record for r does not change is as it was at each record
pub replaced-keeps : {Y : Type 0} (g : Row → Y) (r : ℕ) (x : Row) (T : Sheets) → g x ≡ g (node T r) → (k : ℕ) → g (node (replaced r x T) k) ≡ g (node T k)
replaced-keeps g r x T e k = sym (get_or-map g (set T.nodes r x) k root_node) ∙ ap (λ ys. get_or ys k (g root_node)) (map-set_same g T.nodes r x root_node e) ∙ get_or-map g T.nodes k root_node

-- another record for r leaves the links if it has the same ones
pub linked-replaced : (T : Sheets) (ps : List Path) (r : ℕ) (x : Row) → x.index ≡ (node T r).index → x.next ≡ (node T r).next → x.children ≡ (node T r).children → Linked T ps → Linked (replaced r x T) ps
linked-replaced T ps r x i n c L =
    record {
      used = L.used;
      first = L.first;
      once = L.once;
      indices = λ k q h. replaced-keeps (λ y. y.index) r x T i k ∙ L.indices k q h;
      children = λ k q h. subst₂ (λ ns d. Threads ns d (places (is_child q) 1 ps)) (sym (map-set_same (λ y. y.next) T.nodes r x root_node n)) (sym (replaced-keeps (λ y. y.children) r x T c k)) (L.children k q h);
    }

-- ---- more nodes

-- the parent of each node that has a record has one
abbrev pub Parents : List Path → Type 0
Parents ps = (k : ℕ) (q : Path) (t : Step) → Home ps k (q ▹ t) → (j : ℕ) × Home ps j q

-- a node is not its own child
pub own : (q : Path) (t : Step) → q ▹ t ≡ q → ⊥
own q t e = false≢true (sym (not-child q t) ∙ ap (same q) e ∙ same_self q)

-- a record is one of those that were there, or is among those that come
pub home-split : (ps ms : List Path) (k : ℕ) (q : Path) → Home (ps ++ ms) k q → Home ps k q ⊎ ((j : ℕ) × (j < length ms) × (k ≡ 1 + length ps + j) × (get_or ms j root ≡ q))
home-split ps ms k q (a, b, e) = ⊎_elim
    (λ l. inl (a, l, sym (get_or_append_left (root ∷ ps) ms root k (omega arith)) ∙ e))
    (λ l. let j : k ≡ length (root ∷ ps) + (k - length (root ∷ ps)) = omega arith in
    inr (k - length (root ∷ ps), omega (arith, length-append ps ms), omega arith, sym (get_or-append-add (root ∷ ps) ms (k - length (root ∷ ps)) root) ∙ ap (node_of (ps ++ ms)) (sym j) ∙ e))
    (cases_lt k (1 + length ps))

-- .. and each of those has its record
pub home-come : (ps ms : List Path) (j : ℕ) → j < length ms → Home (ps ++ ms) (1 + length ps + j) (get_or ms j root)
home-come ps ms j l = let n : 1 + length ps + j ≡ length (root ∷ ps) + j = omega arith in (omega arith, omega (arith, length-append ps ms), ap (node_of (ps ++ ms)) n ∙ get_or-append-add (root ∷ ps) ms j root)

-- a new child of p has its parent
pub parents-more : (ps : List Path) (r : ℕ) (p : Path) (s : Step) → Parents ps → Home ps r p → Parents (ps ++ (p ▹ s) ∷ [])
parents-more ps r p s all home k q t h = ⊎_elim
    (λ o. let (j, g) = all k q t o in (j, home-more ps ((p ▹ s) ∷ []) j q g))
    (λ e. (r, home-more ps ((p ▹ s) ∷ []) r q (subst (Home ps r) (sym (ap above e.1)) home)))
    (home-cases ps (p ▹ s) k (q ▹ t) h)
  where
    above : Path → Path
    above root = root
    above (x ▹ t) = x

-- a node with a child was read
pub fathers-ready : (x : Node) (s : Step) → Fathers s x → is_ready x ≡ true
fathers-ready (fresh n) s f = absurd f
fathers-ready (ready K cs) s f = refl

-- the reader's nodes have their parents
pub reads-parents : (T : Sheets) (ps : List Path) (input : List ℕ) (S : Store) → Reads T ps input S → Parents ps
reads-parents T ps input S R k q t h = R.homes q (fathers-ready (S.nodes q) t (R.fathers k q t h))

-- ---- a new child is linked

module _ (T : Sheets) (ps : List Path) (L : Linked T ps) (parents : Parents ps) (r : ℕ) (p : Path) (home : Home ps r p) (s : Step) (none : (k : ℕ) → Home ps k (p ▹ s) → ⊥) (i n : ℕ) (ord : ordinal (p ▹ s) ≡ i) (room : T.used < length T.nodes) where
  -- the records stay linked
  pub linked-spawn : Linked (spawned r i n T) (ps ++ (p ▹ s) ∷ [])
  linked-spawn = record {
    used = omega (arith, L.used, length-append ps ((p ▹ s) ∷ []));
    first = home-more ps ((p ▹ s) ∷ []) 1 root L.first;
    once = λ a b x h k. one-record a b x (home-cases ps (p ▹ s) a x h) (home-cases ps (p ▹ s) b x k);
    indices = λ k x h. ⊎_elim (λ o. same-index k x o ∙ L.indices k x o) (λ e. new-index k x e) (home-cases ps (p ▹ s) k x h);
    children = λ k x h. ⊎_elim (old k x) (new k x) (home-cases ps (p ▹ s) k x h);
  }
    where
      used : r ≢ T.used
      used e = omega (arith, L.used, home.1)

      within : r < length T.nodes
      within = omega (arith, L.used, home.1)

      tail : (node T r).children.last ≢ T.used
      tail e = omega (arith, linked-tail T ps L r p home)

      one-record : (a b : ℕ) (x : Path) → Home ps a x ⊎ ((a ≡ 1 + length ps) × (x ≡ p ▹ s)) → Home ps b x ⊎ ((b ≡ 1 + length ps) × (x ≡ p ▹ s)) → a ≡ b
      one-record a b x (inl h) (inl k) = L.once a b x h k
      one-record a b x (inl h) (inr k) = absurd (none a (subst (Home ps a) k.1 h))
      one-record a b x (inr h) (inl k) = absurd (none b (subst (Home ps b) h.1 k))
      one-record a b x (inr h) (inr k) = h.0 ∙ sym k.0

      -- the new record
      there : (k : ℕ) → k ≡ 1 + length ps → node (spawned r i n T) k ≡ unread i n
      there k e = let u : k ≡ T.used = omega (arith, L.used) in ap (λ j. node (spawned r i n T) j) u ∙ spawned-child r i n T room used tail

      same-index : (k : ℕ) (x : Path) → Home ps k x → (node (spawned r i n T) k).index ≡ (node T k).index
      same-index k x h = ⊎_elim
          (λ e. ap (λ j. (node (spawned r i n T) j).index) e ∙ (spawned-parent r i n T room within used).index ∙ ap (λ j. (node T j).index) (sym e))
          (λ ne. (spawned-others r i n T room k ne (λ e. omega (arith, L.used, h.1))).index)
          (cases_eq k r)

      new-index : (k : ℕ) (x : Path) → (k ≡ 1 + length ps) × (x ≡ p ▹ s) → (node (spawned r i n T) k).index ≡ ordinal x
      new-index k x e = ap (λ (y : Row). y.index) (there k e.0) ∙ sym ord ∙ ap ordinal (sym e.1)

      -- a record of another node is another
      elsewhere : (k : ℕ) (x : Path) → Home ps k x → k ≢ r → p ≡ x → ⊥
      elsewhere k x h ne e = ne (L.once k r x h (subst (Home ps r) e home))

      -- it has no child
      childless : places (is_child (p ▹ s)) 1 (ps ++ (p ▹ s) ∷ []) ≡ []
      childless = places-none (is_child (p ▹ s)) 1 (ps ++ (p ▹ s) ∷ []) root
          (λ j l e. let (t, f) = child-step (p ▹ s) (get_or (ps ++ (p ▹ s) ∷ []) j root) e in
          ⊎_elim (λ h. let (a, b) = parents (suc j) (p ▹ s) t h in none a b) (λ h. own (p ▹ s) t h.1) (home-cases ps (p ▹ s) (suc j) (p ▹ s ▹ t) (omega arith, omega arith, f)))

      moved : (k : ℕ) (x : Path) (c : Chain) → (node (spawned r i n T) k).children ≡ c → Threads (appended (λ _ m. m) (nexts T) (node T r).children.last T.used 0) c (places (is_child x) 1 (ps ++ (p ▹ s) ∷ []))
          → Threads (nexts (spawned r i n T)) (node (spawned r i n T) k).children (places (is_child x) 1 (ps ++ (p ▹ s) ∷ []))
      moved k x c e h = subst₂ (λ ns d. Threads ns d (places (is_child x) 1 (ps ++ (p ▹ s) ∷ []))) (sym (nexts-spawned r i n T within)) (sym e) h

      old : (k : ℕ) (x : Path) → Home ps k x → Threads (nexts (spawned r i n T)) (node (spawned r i n T) k).children (places (is_child x) 1 (ps ++ (p ▹ s) ∷ []))
      old k x h = ⊎_elim
          (λ e. let same-node : x ≡ p = home-one ps r x p (subst (λ j. Home ps j x) e h) home in
          let chain = ap (λ j. (node (spawned r i n T) j).children) e ∙ (spawned-parent r i n T room within used).children in
          moved k x (longer (node T r).children T.used) chain
          (subst (λ y. Threads (appended (λ _ m. m) (nexts T) (node T r).children.last T.used 0) (longer (node T r).children T.used) (places (is_child y) 1 (ps ++ (p ▹ s) ∷ []))) (sym same-node)
          (threads-on (is_child p) (nexts T) (node T r).children ps (p ▹ s) T.used L.used (omega (arith, length-map T.nodes (λ y. y.next))) (same_self p) (L.children r p home))))
          (λ ne. let other : is_child x (p ▹ s) ≡ false = ⊎_elim (λ e. absurd (elsewhere k x h ne (child-one p x (p ▹ s) (same_self p) e))) (λ e. e) (cases_Bool (is_child x (p ▹ s))) in
          moved k x (node T k).children (spawned-others r i n T room k ne (λ e. omega (arith, L.used, h.1))).children
          (threads-off (is_child p) (is_child x) (λ y a b. elsewhere k x h ne (child-one p x y a b)) (nexts T) (node T r).children (node T k).children ps (p ▹ s) root T.used L.used other (L.children r p home) (L.children k x h)))
          (cases_eq k r)

      new : (k : ℕ) (x : Path) → (k ≡ 1 + length ps) × (x ≡ p ▹ s) → Threads (nexts (spawned r i n T)) (node (spawned r i n T) k).children (places (is_child x) 1 (ps ++ (p ▹ s) ∷ []))
      new k x e =
          subst₂ (λ c y. Threads (nexts (spawned r i n T)) c (places (is_child y) 1 (ps ++ (p ▹ s) ∷ []))) (sym (ap (λ (y : Row). y.children) (there k e.0))) (sym e.1)
          (subst (Threads (nexts (spawned r i n T)) no_chain) (sym childless) (refl, refl))

-- ---- so many children

-- the table keeps its length
pub length-grown : (r m n : ℕ) (T : Sheets) → length (grown r m n T).nodes ≡ length T.nodes
length-grown r zero n T = refl
length-grown r (suc m) n T = length-spawned r m n (grown r m n T) ∙ length-grown r m n T

-- so many more records are in use
pub grown-used : (r m n : ℕ) (T : Sheets) → (grown r m n T).used ≡ T.used + m
grown-used r zero n T = omega arith
grown-used r (suc m) n T = omega (arith, grown-used r m n T)

-- what no child changes of the tables
pub grown-rest : {Y : Type 0} (g : Sheets → Y) → ((r i n : ℕ) (T : Sheets) → g (spawned r i n T) ≡ g T) → (r m n : ℕ) (T : Sheets) → g (grown r m n T) ≡ g T
grown-rest g h r zero n T = refl
grown-rest g h r (suc m) n T = h r m n (grown r m n T) ∙ grown-rest g h r m n T

-- the last one of r is in use
pub grown-tail : (r m n : ℕ) (T : Sheets) → r < length T.nodes → (node T r).children.last < T.used → (node (grown r m n T) r).children.last < (grown r m n T).used
grown-tail r zero n T l t = t
grown-tail r (suc m) n T l t = omega (arith, spawned-last r m n (grown r m n T) (omega (arith, length-grown r m n T)))

module _ (r n : ℕ) (T : Sheets) (within : r < T.used) where
  -- every other record that was in use is as it was, but for the one that comes next
  pub grown-others : (m k : ℕ) → T.used + m ≤ length T.nodes → k < T.used → k ≢ r → Alike (node (grown r m n T) k) (node T k)
  grown-others zero k room l ne = alike-same _ _ refl
  grown-others (suc m) k room l ne =
      let used = grown-used r m n T in
      let size = length-grown r m n T in
      alike-trans _ _ _ (spawned-others r m n (grown r m n T) (omega arith) k ne (λ e. omega arith)) (grown-others m k (omega arith) l ne)

  -- so is r but for its children
  pub grown-parent : (m : ℕ) → T.used + m ≤ length T.nodes → Alike (node (grown r m n T) r) (with_children (node (grown r m n T) r).children (node T r))
  grown-parent zero room = alike-same _ _ refl
  grown-parent (suc m) room =
      let used = grown-used r m n T in
      let size = length-grown r m n T in
      let U = grown r m n T in
      alike-children (node (grown r (suc m) n T) r) (node U r) (node T r) (longer (node U r).children U.used) (node U r).children
      (spawned-parent r m n U (omega arith) (omega arith) (λ e. omega arith)) (grown-parent m (omega arith))

  -- each child is to be read
  pub grown-child : (node T r).children.last < T.used → (m j : ℕ) → T.used + m ≤ length T.nodes → j < m → Alike (node (grown r m n T) (T.used + j)) (unread j n)
  grown-child tail zero j room l = absurd (omega arith)
  grown-child tail (suc m) j room l =
      let used = grown-used r m n T in
      let size = length-grown r m n T in
      ⊎_elim
      (λ e. let here : T.used + j ≡ (grown r m n T).used = omega arith in
      let last = grown-tail r m n T (omega arith) tail in
      subst (λ i. Alike (node (grown r (suc m) n T) (T.used + j)) (unread i n)) (sym e)
      (alike-same _ _ (ap (λ k. node (grown r (suc m) n T) k) here ∙ spawned-child r m n (grown r m n T) (omega arith) (λ z. omega arith) (λ z. omega arith))))
      (λ ne. alike-trans _ _ _ (spawned-others r m n (grown r m n T) (omega arith) (T.used + j) (λ z. omega arith) (λ z. ne (omega arith))) (grown-child tail m j (omega arith) (omega arith)))
      (cases_eq j m)

-- ---- the children that come with a kind are linked

-- Those that a kind brings are children, in the order of the ordinals.
abbrev pub Ordered : Path → List Path → Type 0
Ordered p qs = (j : ℕ) → j < length qs → (s : Step) × (get_or qs j root ≡ p ▹ s) × (ordinal (p ▹ s) ≡ j)

-- a kind's children are in that order
pub brought-ordered : (p : Path) (K : Kind) → Ordered p (brought p K)
brought-ordered p K j h = brought-at p K j (omega (arith, length-brought p K))

-- as many children come with a kind's mark as the kind brings
pub family-brought : (p : Path) (K : Kind) → family_of (mark_of K) ≡ length (brought p K)
family-brought p K = family-takes K ∙ sym (length-brought p K)

-- the first child of a node that had none
pub first-child : (T : Sheets) (ps qs : List Path) → Linked T (ps ++ qs) → (r : ℕ) (p : Path) → Home ps r p → ((k : ℕ) (s : Step) → Home ps k (p ▹ s) → ⊥) → 0 < length qs → is_child p (get_or qs 0 root) ≡ true → (node T r).children.first ≡ 1 + length ps
first-child T ps [] L r p home none some is = absurd (omega arith)
first-child T ps (q ∷ qs) L r p home none some is = (subst (Runs (nexts T) (node T r).children.first) there (L.children r p (home-more ps (q ∷ qs) r p home)).0).0
  where
    no-child : places (is_child p) 1 ps ≡ []
    no-child = places-none (is_child p) 1 ps root (λ j l e. let (s, f) = child-step p (get_or ps j root) e in none (suc j) s (omega arith, omega arith, f))

    there : places (is_child p) 1 (ps ++ q ∷ qs) ≡ (1 + length ps) ∷ places (is_child p) (suc (1 + length ps)) qs
    there = places-append (is_child p) 1 ps (q ∷ qs) ∙ ap (λ is. is ++ places (is_child p) (1 + length ps) (q ∷ qs)) no-child ∙ cond-true (is_child p q) _ _ is

-- The tables T' are T with a record of n values for each of the nodes qs, which are the first children of r.
pub record Grew (T T' : Sheets) (ps qs : List Path) (r n : ℕ) : Type 0 where
  pub linked : Linked T' (ps ++ qs)
  pub parents : Parents (ps ++ qs)
  pub others : (k : ℕ) → k < T.used → k ≢ r → Alike (node T' k) (node T k)
  pub parent : Alike (node T' r) (with_children (node T' r).children (node T r))
  pub first : 0 < length qs → (node T' r).children.first ≡ T.used
  pub children : (j : ℕ) → j < length qs → Alike (node T' (T.used + j)) (unread j n)
  pub homes : (j : ℕ) → j < length qs → Home (ps ++ qs) (T.used + j) (get_or qs j root)
  pub used : T'.used ≡ T.used + length qs
  pub size : length T'.nodes ≡ length T.nodes
  pub slots : T'.slots ≡ T.slots
  pub taken : T'.taken ≡ T.taken
  pub place : T'.place ≡ T.place
  pub columns : T'.columns ≡ T.columns

module _ (T : Sheets) (ps : List Path) (L : Linked T ps) (parents : Parents ps) (r : ℕ) (p : Path) (home : Home ps r p) (none : (k : ℕ) (s : Step) → Home ps k (p ▹ s) → ⊥) (n : ℕ) where
  -- the first m of some children are linked
  linked-some : (qs : List Path) → Ordered p qs → (m : ℕ) → m ≤ length qs → T.used + m ≤ length T.nodes → Linked (grown r m n T) (ps ++ take m qs) × Parents (ps ++ take m qs)
  linked-some qs kids zero l room = subst (λ xs. Linked T xs × Parents xs) (sym (append-nil ps)) (L, parents)
  linked-some qs kids (suc m) l room =
      let used = grown-used r m n T in
      let size = length-grown r m n T in
      let (L', P') = linked-some qs kids m (omega arith) (omega arith) in
      let (s, e, o) = kids m (omega arith) in
      let there = home-more ps (take m qs) r p home in
      let none' : (k : ℕ) → Home (ps ++ take m qs) k (p ▹ s) → ⊥ = λ k h. ⊎_elim (λ a. none k s a) (λ b. earlier s o b) (home-split ps (take m qs) k (p ▹ s) h) in
      subst (λ xs. Linked (grown r (suc m) n T) xs × Parents xs)
      (append_assoc ps (take m qs) ((p ▹ s) ∷ []) ∙ ap (λ x. ps ++ (take m qs ++ x ∷ [])) (sym e) ∙ ap (λ l. ps ++ l) (sym (take-suc qs m root (omega arith))))
      (linked-spawn (grown r m n T) (ps ++ take m qs) L' P' r p there s none' m n o (omega arith), parents-more (ps ++ take m qs) r p s P' there)
    where
      earlier : (s : Step) → ordinal (p ▹ s) ≡ m → {k : ℕ} → (j : ℕ) × (j < length (take m qs)) × (k ≡ 1 + length ps + j) × (get_or (take m qs) j root ≡ p ▹ s) → ⊥
      earlier s o (j, jl, je, q) =
          let long = length-take-le m qs (omega arith) in
          let (t, e, i) = kids j (omega arith) in
          let w : ordinal (p ▹ t) ≡ ordinal (p ▹ s) = ap ordinal (sym e ∙ sym (get_or-take m qs j root (omega arith)) ∙ q) in
          omega arith

  -- so are all of them
  linked-all : (qs : List Path) → Ordered p qs → (m : ℕ) → m ≡ length qs → T.used + m ≤ length T.nodes → Grew T (grown r m n T) ps qs r n
  linked-all qs kids m e room =
      let all : take m qs ≡ qs = ap (λ k. take k qs) e ∙ take-length qs in
      let (L', P') = subst (λ xs. Linked (grown r m n T) (ps ++ xs) × Parents (ps ++ xs)) all (linked-some qs kids m (omega arith) room) in
      let within : r < T.used = omega (arith, L.used, home.1) in
      record {
        linked = L';
        parents = P';
        others = λ k l ne. grown-others r n T within m k room l ne;
        parent = grown-parent r n T within m room;
        first = λ some. let (s, f, o) = kids 0 some in first-child (grown r m n T) ps qs L' r p home none some (ap (is_child p) f ∙ same_self p) ∙ sym L.used;
        children = λ j l. grown-child r n T within (linked-tail T ps L r p home) m j room (omega arith);
        homes = λ j l. let k : 1 + length ps + j ≡ T.used + j = omega (arith, L.used) in subst (λ i. Home (ps ++ qs) i (get_or qs j root)) k (home-come ps qs j l);
        used = omega (arith, grown-used r m n T);
        size = length-grown r m n T;
        slots = grown-rest (λ U. U.slots) (λ a i c U. refl) r m n T;
        taken = grown-rest (λ U. U.taken) (λ a i c U. refl) r m n T;
        place = grown-rest (λ U. U.place) (λ a i c U. refl) r m n T;
        columns = grown-rest (λ U. U.columns) (λ a i c U. refl) r m n T;
      }

  -- So are all that a kind brings.
  pub linked-grow : (K : Kind) → T.used + family_of (mark_of K) ≤ length T.nodes → Grew T (grown r (family_of (mark_of K)) n T) ps (brought p K) r n
  linked-grow K room = linked-all (brought p K) (brought-ordered p K) (family_of (mark_of K)) (family-brought p K) room
