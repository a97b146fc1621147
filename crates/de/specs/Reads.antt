-- The reader's tables stand for a state of the definitions' reader.
use Rattle.std.specs.Prelude.{◌≡◌, ℕ, ◌+◌, ◌-◌, ◌^◌, ◌<◌, ◌≤◌, ◌⊎◌, Bool, true, false, List, length, min, take, drop, map as each, nat_lt}
use Rattle.std.specs.List.{AllByRecursion}
use Rattle.document.specs.Calls.{width, total, Kind, SCALAR, TEXT, SEQ, MAP, ENUM, UNIT, TUPLE, Cell, number, num}
use Rattle.document.specs.Nodes.{Path, root, ◌▹◌, Step, elem, key, value, field, alt, demand}
use Rattle.document.specs.Fetch.{columns_of}
use Rattle.document.specs.Reader.{Node, fresh, ready, Store, letter_count}
use Rattle.nodes.specs.declared.marks.Mark.TheVariants.{Unmarked}
use Rattle.nodes.specs.Marks.{mark_of}
use Rattle.nodes.specs.Homes.{Home, ordinal, is_child, places, Threads}
use Rattle.de.specs.declared.records.Node.{Node as Row}
use Rattle.de.specs.Moves.{Sheets, node}

-- ---- one node

-- a step that leads from a node of this kind to a child
abbrev pub ChildOf : Kind → Step → Type 0
ChildOf (SCALAR k) s = ⊥
ChildOf TEXT s = ⊥
ChildOf SEQ s = s ≡ elem
ChildOf MAP s = (s ≡ key) ⊎ (s ≡ value)
ChildOf ENUM s = (i : ℕ) × (s ≡ alt i)
ChildOf UNIT s = ⊥
ChildOf (TUPLE n) s = (i : ℕ) × (i < n) × (s ≡ field i)

-- only a node that was read has children
abbrev pub Fathers : Step → Node → Type 0
Fathers s (fresh n) = ⊥
Fathers s (ready K cs) = ChildOf K s

-- whether a node was read
abbrev pub is_ready : Node → Bool
is_ready (fresh n) = false
is_ready (ready K cs) = true

-- how many columns a node has, if they were read
abbrev pub columns_read : Node → ℕ
columns_read (fresh n) = 0
columns_read (ready K cs) = columns_of K

-- a node's values lie side by side in the slots, and these are left
pub record Lies (T : Sheets) (x : Row) (cs : List Cell) : Type 0 where
  pub within : x.first + x.count ≤ T.taken
  pub left : each num cs ≡ take (length cs) (drop (x.first + x.done) T.slots)

-- all values of a node, as cells
abbrev pub all_of : Sheets → Row → List Cell
all_of T x = each number (take x.count (drop x.first T.slots))

-- what is left of a node's values, by its kind: they fit; start is where its next text stands, and its texts lie in what was read
abbrev pub Values : Sheets → ℕ → Row → Kind → List Cell → Type 0
Values T start x (SCALAR k) cs = Lies T x cs × AllByRecursion (λ c. num c < 2 ^ width k) cs
Values T start x TEXT cs = Lies T x cs × (x.text ≡ start) × (x.text + total num cs ≤ T.place) × AllByRecursion (λ c. num c ≡ letter_count c) cs
Values T start x SEQ cs = Lies T x cs
Values T start x MAP cs = Lies T x cs
Values T start x ENUM cs = Lies T x cs × AllByRecursion (λ c. num c < 2 ^ 8) cs
Values T start x UNIT cs = Unit {0}
Values T start x (TUPLE n) cs = Unit {0}

-- its children: those that came with its kind have their records side by side; a branch without one has as many values as its index occurs
abbrev pub Children : Sheets → List Path → Store → Path → Row → Kind → Type 0
Children T ps S p x (SCALAR k) = Unit {0}
Children T ps S p x TEXT = Unit {0}
Children T ps S p x SEQ = Home ps x.children.first (p ▹ elem)
Children T ps S p x MAP = Home ps x.children.first (p ▹ key) × Home ps (x.children.first + 1) (p ▹ value)
Children T ps S p x ENUM = (i : ℕ) → S.made (p ▹ alt i) ≡ false → S.nodes (p ▹ alt i) ≡ fresh (total (demand ENUM (alt i)) (all_of T x))
Children T ps S p x UNIT = Unit {0}
Children T ps S p x (TUPLE n) = (j : ℕ) → j < n → Home ps (x.children.first + j) (p ▹ field j)

-- a node's record: of one that is to be read the number of its values, of one that was read its kind and what is left
abbrev pub Kept : Sheets → List Path → Store → Path → Row → Node → Type 0
Kept T ps S p x (fresh n) = (x.mark ≡ Unmarked) × (x.count ≡ n)
Kept T ps S p x (ready K cs) = (x.mark ≡ mark_of K) × (x.done + length cs ≡ x.count) × Values T (S.texts p) x K cs × Children T ps S p x K

-- ---- all of them

-- the next indices of the records
abbrev pub nexts : Sheets → List ℕ
nexts T = each (λ x. x.next) T.nodes

-- The records are linked: those in use are these nodes', each with one record, and a node's children are chained.
pub record Linked (T : Sheets) (ps : List Path) : Type 0 where
  pub used : T.used ≡ 1 + length ps
  pub first : Home ps 1 root
  pub once : (r s : ℕ) (p : Path) → Home ps r p → Home ps s p → r ≡ s
  pub indices : (r : ℕ) (p : Path) → Home ps r p → (node T r).index ≡ ordinal p
  pub children : (r : ℕ) (p : Path) → Home ps r p → Threads (nexts T) (node T r).children (places (is_child p) 1 ps)

-- The tables over this input stand for the store: ps are the nodes that have a record, in the order in which they got it.
pub record Reads (T : Sheets) (ps : List Path) (input : List ℕ) (S : Store) : Type 0 where
  pub linked : Linked T ps
  pub rooted : S.rooted ≡ nat_lt 1 (length T.nodes)
  pub records : S.records ≡ min (length T.nodes) 65536 - T.used
  pub room : S.rooted ≡ true → T.used ≤ min (length T.nodes) 65536
  pub slots : S.slots ≡ min (length T.slots) 1048576 - T.taken
  pub taken : T.taken ≤ min (length T.slots) 1048576
  pub rest : S.input ≡ drop T.place input
  pub place : S.place ≡ T.place
  pub within : T.place ≤ length input
  pub columns : S.columns ≡ T.columns
  pub few : T.columns ≤ total (λ q. columns_read (S.nodes q)) ps
  pub made : (p : Path) (i : ℕ) → S.made (p ▹ alt i) ≡ true → (r : ℕ) × Home ps r (p ▹ alt i)
  pub making : (r : ℕ) (p : Path) (i : ℕ) → Home ps r (p ▹ alt i) → S.made (p ▹ alt i) ≡ true
  pub fathers : (r : ℕ) (p : Path) (s : Step) → Home ps r (p ▹ s) → Fathers s (S.nodes p)
  pub homes : (q : Path) → is_ready (S.nodes q) ≡ true → (r : ℕ) × Home ps r q
  pub kept : (r : ℕ) (p : Path) → Home ps r p → Kept T ps S p (node T r) (S.nodes p)
