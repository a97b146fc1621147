-- The bytes of a document: the columns of its nodes, in the order in which the nodes were first needed.
use Rattle.std.specs.Prelude.{ℕ, Bool, cond, not, List, [], ◌∷◌, map as each}
use Rattle.column.specs.Meaning.{Meaning}
use Rattle.document.specs.Calls.{Value, kind, cell, Call}
use Rattle.document.specs.Nodes.{Path, same}
use Rattle.document.specs.Entries.{Entry, at}
use Rattle.document.specs.Places.{start}
use Rattle.document.specs.Trace.{trace}
use Rattle.document.specs.Columns.{columns, joined}

-- those that pass the test
abbrev pub keep : {X : Type 0} → (X → Bool) → List X → List X
keep t [] = []
keep t (x ∷ xs) = cond (t x) (x ∷ keep t xs) (keep t xs)

-- the nodes but this one
abbrev pub others : Path → List Path → List Path
others p qs = keep (λ q. not (same p q)) qs

-- the nodes in the order of their first calls
abbrev pub firsts : List Entry → List Path
firsts [] = []
firsts (e ∷ es) = e.node ∷ others e.node (firsts es)

-- a node's bytes, by the kind that its first call marks it as (a unit's and a tuple's are none)
abbrev pub written : Meaning → List Value → List ℕ
written col [] = []
written col (v ∷ vs) = columns col (kind v) (each cell (v ∷ vs))

-- the bytes of a node
abbrev pub node_bytes : Meaning → List Entry → Path → List ℕ
node_bytes col es p = written col (at p es)

-- the bytes of all nodes
abbrev pub bytes_of : Meaning → List Entry → List ℕ
bytes_of col es = joined (each (node_bytes col es) (firsts es))

-- the bytes of a list of calls
abbrev pub bytes : Meaning → List Call → List ℕ
bytes col cs = bytes_of col (trace start cs)
