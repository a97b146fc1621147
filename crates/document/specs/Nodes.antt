-- Nodes: where values stand. A node is a path from the root.
use Rattle.std.specs.Prelude.{ℕ, Bool, true, false, cond, ◌&&◌, ◌||◌, ◌==◌, nat_lt}
use Rattle.document.specs.Calls.{Value, Kind, SCALAR, TEXT, SEQ, MAP, ENUM, UNIT, TUPLE, Cell, num, kind, cell}

-- all elements of a seq share a node, all keys of a map one and its values another; each tuple field and each variant index has its own
pub data Step : Type 0 where
  elem key value : Step
  field alt : ℕ → Step

infixl 60 ◌▹◌
-- the root, or a node's child
pub data Path : Type 0 where
  root : Path
  ◌▹◌ : Path → Step → Path

-- two steps are the same
abbrev pub alike : Step → Step → Bool
alike elem elem = true
alike elem key = false
alike elem value = false
alike elem (field j) = false
alike elem (alt j) = false
alike key elem = false
alike key key = true
alike key value = false
alike key (field j) = false
alike key (alt j) = false
alike value elem = false
alike value key = false
alike value value = true
alike value (field j) = false
alike value (alt j) = false
alike (field i) elem = false
alike (field i) key = false
alike (field i) value = false
alike (field i) (field j) = i == j
alike (field i) (alt j) = false
alike (alt i) elem = false
alike (alt i) key = false
alike (alt i) value = false
alike (alt i) (field j) = false
alike (alt i) (alt j) = i == j

-- two nodes are the same
abbrev pub same : Path → Path → Bool
same root root = true
same root (q ▹ t) = false
same (p ▹ s) root = false
same (p ▹ s) (q ▹ t) = same p q && alike s t

-- whether a tuple of n fields has this one
abbrev pub field_of : ℕ → Step → ℕ
field_of n elem = 0
field_of n key = 0
field_of n value = 0
field_of n (field i) = cond (nat_lt i n) 1 0
field_of n (alt i) = 0

-- how many values a cell of a node of this kind demands at the child s
abbrev pub demand : Kind → Step → Cell → ℕ
demand (SCALAR k) s c = 0
demand TEXT s c = 0
demand SEQ s c = cond (alike elem s) (num c) 0
demand MAP s c = cond (alike key s || alike value s) (num c) 0
demand ENUM s c = cond (alike (alt (num c)) s) 1 0
demand UNIT s c = 0
demand (TUPLE n) s c = field_of n s

-- how many values a value demands at the child s of its node
abbrev pub demands : Step → Value → ℕ
demands s v = demand (kind v) s (cell v)
