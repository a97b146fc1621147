-- Node records: which nodes have one, in the order in which they get it.
use Rattle.std.specs.Prelude.{ℕ, zero, suc, ◌+◌, Bool, false, cond, List, [], ◌∷◌, ◌++◌}
use Rattle.document.specs.Calls.{Kind, SCALAR, TEXT, SEQ, MAP, ENUM, UNIT, TUPLE, Value, kind}
use Rattle.document.specs.Nodes.{Path, root, ◌▹◌, elem, key, value, field, alt, same}
use Rattle.document.specs.Entries.{Entry, at}
use Rattle.document.specs.Tables.{Branch, unbranched, branch, branch_of, with_branch}

-- n fields of a tuple, from the i-th on
abbrev pub fields_from : Path → ℕ → ℕ → List Path
fields_from p i zero = []
fields_from p i (suc n) = (p ▹ field i) ∷ fields_from p (suc i) n

-- the children that get a record when a node is marked
abbrev pub brought : Path → Kind → List Path
brought p (SCALAR k) = []
brought p TEXT = []
brought p SEQ = (p ▹ elem) ∷ []
brought p MAP = (p ▹ key) ∷ (p ▹ value) ∷ []
brought p ENUM = []
brought p UNIT = []
brought p (TUPLE n) = fields_from p 0 n

-- the indices among some values, beside those that there are
abbrev pub had : (ℕ → Bool) → List Value → ℕ → Bool
had seen [] i = seen i
had seen (v ∷ vs) i = had (with_branch seen (branch_of v)) vs i

-- a new index gets its child a record
abbrev pub new_child : (ℕ → Bool) → Path → Branch → List Path
new_child seen p unbranched = []
new_child seen p (branch i) = cond (seen i) [] ((p ▹ alt i) ∷ [])

-- the mark that the first value at a node makes
abbrev pub marked : List Value → Path → Kind → List Path
marked [] p K = brought p K
marked (v ∷ vs) p K = []

-- the nodes that get a record with an entry, after those of ts
abbrev pub added : List Entry → Entry → List Path
added ts e = marked (at e.node ts) e.node (kind e.said) ++ new_child (had (λ i. false) (at e.node ts)) e.node (branch_of e.said)

abbrev pub added_by : List Entry → List Entry → List Path
added_by ts [] = []
added_by ts (e ∷ es) = added ts e ++ added_by (ts ++ e ∷ []) es

-- the nodes with a record, in the order in which they get it: the root first
abbrev pub nodes_of : List Entry → List Path
nodes_of ts = root ∷ added_by [] ts

-- how often a node stands in a list
abbrev pub times : Path → List Path → ℕ
times p [] = 0
times p (q ∷ qs) = cond (same p q) 1 0 + times p qs
