-- What a move leaves at a record, and of the tables.
use Rattle.std.proofs.Common.{◌≡◌, ℕ, zero, suc, ◌+◌, ◌<◌, Bool, true, false, cond, eqb, List, length, get_or, set, Option, refl, ap, ◌∙◌, ⊎_elim, arith, get_or-set_other}
use Rattle.std.specs.declared.option.Option.TheVariants as options
use Rattle.std.proofs.lemmas.Bool.{cases_eq}
use Rattle.chain.specs.declared.Chain.{Chain}
use Rattle.chain.specs.Chains.{adjust, appended, longer}
use Rattle.chain.proofs.Tables.{length-adjust, length-appended, get_or-adjust-same, get_or-adjust-other, get_or-appended-place, adjust-keeps, appended-first, appended-after}
use Rattle.nodes.specs.declared.marks.Mark.{Mark}
use Rattle.nodes.specs.Marks.{family_of}
use Rattle.ser.specs.declared.records.Node.{Node}
use Rattle.ser.specs.declared.loads.Load.{Load}
use Rattle.ser.specs.Moves.{Sheets, node, blank_node, child, is_fresh, with_next, with_mark, with_order, with_children, with_cells, with_sum, spawned, named, grown, touched, celled, kept, branched}

-- ---- a new child

-- it is the last one of r
pub spawned-last : (r i : ℕ) (T : Sheets) → r < length T.nodes → (node (spawned r i T) r).children.last ≡ T.used
spawned-last r i T l =
    let ns = appended with_next T.nodes (node T r).children.last T.used (child i) in
    ap (λ n. n.children.last)
    (get_or-adjust-same (with_children (longer (node T r).children T.used)) r ns blank_node (omega (arith, length-appended with_next T.nodes (node T r).children.last T.used (child i))))

-- it has no child
pub spawned-bare : (r i : ℕ) (T : Sheets) → r < T.used → (node T r).children.last < T.used → T.used < length T.nodes → (node (spawned r i T) T.used).children.last ≡ 0
spawned-bare r i T l t w =
    ap (λ n. n.children.last)
    (get_or-adjust-other (with_children (longer (node T r).children T.used)) r T.used (appended with_next T.nodes (node T r).children.last T.used (child i)) blank_node (λ e. omega arith)
    ∙ get_or-appended-place with_next T.nodes (node T r).children.last T.used (child i) blank_node (λ e. omega arith) w)

pub length-spawned : (r i : ℕ) (T : Sheets) → length (spawned r i T).nodes ≡ length T.nodes
length-spawned r i T =
    length-adjust (with_children (longer (node T r).children T.used)) r (appended with_next T.nodes (node T r).children.last T.used (child i))
    ∙ length-appended with_next T.nodes (node T r).children.last T.used (child i)

-- what no link and no chain of children changes is as it was at each other record
pub spawned-keeps : {Y : Type 0} (g : Node → Y) → ((n : Node) (k : ℕ) → g (with_next n k) ≡ g n) → ((c : Chain) (n : Node) → g (with_children c n) ≡ g n)
    → (r i k : ℕ) (T : Sheets) → k < T.used → g (node (spawned r i T) k) ≡ g (node T k)
spawned-keeps g hn hc r i k T l =
    adjust-keeps g (with_children (longer (node T r).children T.used)) (hc (longer (node T r).children T.used)) r k (appended with_next T.nodes last T.used (child i)) blank_node
    ∙ ⊎_elim
    (λ z. ap (λ xs. g (get_or xs k blank_node)) (appended-first with_next T.nodes last T.used (child i) z))
    (λ z. ap (λ xs. g (get_or xs k blank_node)) (appended-after with_next T.nodes last T.used (child i) z) ∙ adjust-keeps g (λ n. with_next n T.used) (λ n. hn n T.used) last k placed blank_node)
    (cases_eq last 0)
    ∙ ap g (get_or-set_other T.nodes T.used k (with_next (child i) 0) blank_node (λ e. omega arith))
  where
    last : ℕ
    last = (node T r).children.last

    placed : List Node
    placed = set T.nodes T.used (with_next (child i) 0)

-- ---- so many children

pub grown-used : (r n : ℕ) (T : Sheets) → (grown r n T).used ≡ T.used + n
grown-used r zero T = omega arith
grown-used r (suc n) T = omega (arith, grown-used r n T)

pub length-grown : (r n : ℕ) (T : Sheets) → length (grown r n T).nodes ≡ length T.nodes
length-grown r zero T = refl
length-grown r (suc n) T = length-spawned r n (grown r n T) ∙ length-grown r n T

-- the last one of r lies among those in use
pub grown-tail : (r n : ℕ) (T : Sheets) → r < length T.nodes → (node T r).children.last < T.used → (node (grown r n T) r).children.last < (grown r n T).used
grown-tail r zero T l t = t
grown-tail r (suc n) T l t = omega (arith, spawned-last r n (grown r n T) (omega (arith, length-grown r n T)))

pub grown-keeps : {Y : Type 0} (g : Node → Y) → ((n : Node) (k : ℕ) → g (with_next n k) ≡ g n) → ((c : Chain) (n : Node) → g (with_children c n) ≡ g n)
    → (r n k : ℕ) (T : Sheets) → k < T.used → g (node (grown r n T) k) ≡ g (node T k)
grown-keeps g hn hc r zero k T l = refl
grown-keeps g hn hc r (suc n) k T l = spawned-keeps g hn hc r n k (grown r n T) (omega (arith, grown-used r n T)) ∙ grown-keeps g hn hc r n k T l

-- what no child changes of the tables
pub grown-rest : {Y : Type 0} (g : Sheets → Y) → ((r i : ℕ) (T : Sheets) → g (spawned r i T) ≡ g T) → (r n : ℕ) (T : Sheets) → g (grown r n T) ≡ g T
grown-rest g h r zero T = refl
grown-rest g h r (suc n) T = h r n (grown r n T) ∙ grown-rest g h r n T

-- ---- a mark

pub length-named : (r : ℕ) (m : Mark) (T : Sheets) → length (named r m T).nodes ≡ length T.nodes
length-named r m T = length-adjust (with_order r) (T.marked + 1) (adjust (with_mark m) r T.nodes) ∙ length-adjust (with_mark m) r T.nodes

-- what no mark and no order changes is as it was at each record
pub named-keeps : {Y : Type 0} (g : Node → Y) → ((m : Mark) (n : Node) → g (with_mark m n) ≡ g n) → ((r : ℕ) (n : Node) → g (with_order r n) ≡ g n)
    → (r : ℕ) (m : Mark) (k : ℕ) (T : Sheets) → g (node (named r m T) k) ≡ g (node T k)
named-keeps g hm ho r m k T =
    adjust-keeps g (with_order r) (ho r) (T.marked + 1) k (adjust (with_mark m) r T.nodes) blank_node ∙ adjust-keeps g (with_mark m) (hm m) r k T.nodes blank_node

-- ---- a first value

module _ (r : ℕ) (m : Mark) (T : Sheets) where
  pub touched-used : (touched r m T).used ≡ T.used + cond (is_fresh T r) (family_of m) 0
  touched-used = aux (is_fresh T r)
    where
      aux : (b : Bool) → (cond b (grown r (family_of m) (named r m T)) T).used ≡ T.used + cond b (family_of m) 0
      aux true = grown-used r (family_of m) (named r m T)
      aux false = omega arith

  pub touched-marked : (touched r m T).marked ≡ T.marked + cond (is_fresh T r) 1 0
  touched-marked = aux (is_fresh T r)
    where
      aux : (b : Bool) → (cond b (grown r (family_of m) (named r m T)) T).marked ≡ T.marked + cond b 1 0
      aux true = grown-rest (λ U. U.marked) (λ q i U. refl) r (family_of m) (named r m T)
      aux false = omega arith

  pub length-touched : length (touched r m T).nodes ≡ length T.nodes
  length-touched = aux (is_fresh T r)
    where
      aux : (b : Bool) → length (cond b (grown r (family_of m) (named r m T)) T).nodes ≡ length T.nodes
      aux true = length-grown r (family_of m) (named r m T) ∙ length-named r m T
      aux false = refl

  pub touched-tail : r < length T.nodes → (node T r).children.last < T.used → (node (touched r m T) r).children.last < (touched r m T).used
  touched-tail l t = aux (is_fresh T r)
    where
      aux : (b : Bool) → (node (cond b (grown r (family_of m) (named r m T)) T) r).children.last < (cond b (grown r (family_of m) (named r m T)) T).used
      aux true = grown-tail r (family_of m) (named r m T) (omega (arith, length-named r m T)) (omega (arith, named-keeps (λ n. n.children.last) (λ k n. refl) (λ k n. refl) r m r T))
      aux false = t

  pub touched-keeps : {Y : Type 0} (g : Node → Y) → ((n : Node) (k : ℕ) → g (with_next n k) ≡ g n) → ((c : Chain) (n : Node) → g (with_children c n) ≡ g n)
      → ((m : Mark) (n : Node) → g (with_mark m n) ≡ g n) → ((r : ℕ) (n : Node) → g (with_order r n) ≡ g n)
      → (k : ℕ) → k < T.used → g (node (touched r m T) k) ≡ g (node T k)
  touched-keeps {Y} g hn hc hm ho k l = aux (is_fresh T r)
    where
      aux : (b : Bool) → g (node (cond b (grown r (family_of m) (named r m T)) T) k) ≡ g (node T k)
      aux true = grown-keeps g hn hc r (family_of m) k (named r m T) l ∙ named-keeps g hm ho r m k T
      aux false = refl

  -- what neither a child nor a mark changes of the tables
  pub touched-rest : {Y : Type 0} (g : Sheets → Y) → ((r i : ℕ) (T : Sheets) → g (spawned r i T) ≡ g T) → ((r : ℕ) (m : Mark) (T : Sheets) → g (named r m T) ≡ g T)
      → g (touched r m T) ≡ g T
  touched-rest {Y} g h hm = aux (is_fresh T r)
    where
      aux : (b : Bool) → g (cond b (grown r (family_of m) (named r m T)) T) ≡ g T
      aux true = grown-rest g h r (family_of m) (named r m T) ∙ hm r m T
      aux false = refl

-- ---- the child of an index

module _ (r k : ℕ) (T : Sheets) where
  pub length-branched : (i : Option ℕ) → length (branched r k i T).nodes ≡ length T.nodes
  length-branched options.None = refl
  length-branched (options.Some i) = aux (eqb k 0)
    where
      aux : (b : Bool) → length (cond b (spawned r i T) T).nodes ≡ length T.nodes
      aux true = length-spawned r i T
      aux false = refl

  pub branched-keeps : {Y : Type 0} (g : Node → Y) → ((n : Node) (k : ℕ) → g (with_next n k) ≡ g n) → ((c : Chain) (n : Node) → g (with_children c n) ≡ g n)
      → (i : Option ℕ) (j : ℕ) → j < T.used → g (node (branched r k i T) j) ≡ g (node T j)
  branched-keeps g hn hc options.None j l = refl
  branched-keeps {Y} g hn hc (options.Some i) j l = aux (eqb k 0)
    where
      aux : (b : Bool) → g (node (cond b (spawned r i T) T) j) ≡ g (node T j)
      aux true = spawned-keeps g hn hc r i j T l
      aux false = refl

  pub branched-rest : {Y : Type 0} (g : Sheets → Y) → ((r i : ℕ) (T : Sheets) → g (spawned r i T) ≡ g T) → (i : Option ℕ) → g (branched r k i T) ≡ g T
  branched-rest g h options.None = refl
  branched-rest {Y} g h (options.Some i) = aux (eqb k 0)
    where
      aux : (b : Bool) → g (cond b (spawned r i T) T) ≡ g T
      aux true = h r i T
      aux false = refl

-- ---- a load

pub celled-keeps : {Y : Type 0} (g : Node → Y) → ((c : Chain) (n : Node) → g (with_cells c n) ≡ g n) → ((x : ℕ) (n : Node) → g (with_sum x n) ≡ g n)
    → (r : ℕ) (x : Load) (k : ℕ) (T : Sheets) → g (node (celled r x T) k) ≡ g (node T k)
celled-keeps g hc hs r x k T =
    adjust-keeps g (with_cells (longer (node T r).cells T.taken)) (hc (longer (node T r).cells T.taken)) r k (adjust (with_sum x.extent) r T.nodes) blank_node
    ∙ adjust-keeps g (with_sum x.extent) (hs x.extent) r k T.nodes blank_node

pub length-celled : (r : ℕ) (x : Load) (T : Sheets) → length (celled r x T).nodes ≡ length T.nodes
length-celled r x T = length-adjust (with_cells (longer (node T r).cells T.taken)) r (adjust (with_sum x.extent) r T.nodes) ∙ length-adjust (with_sum x.extent) r T.nodes

-- what no cell changes of the tables
pub kept-rest : {Y : Type 0} (g : Sheets → Y) → ((r : ℕ) (x : Load) (T : Sheets) → g (celled r x T) ≡ g T) → (r : ℕ) (load : Option Load) (T : Sheets) → g (kept r load T) ≡ g T
kept-rest g h r options.None T = refl
kept-rest g h r (options.Some x) T = h r x T
