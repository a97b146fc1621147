-- Entries: what a value call leaves at which nodes.
use Rattle.std.specs.Prelude.{zero, suc, cond, List, [], ◌∷◌}
use Rattle.document.specs.Calls.{Value, scalar, text, unit, none, some, variant, seq, map, tuple}
use Rattle.document.specs.Nodes.{Path, ◌▹◌, alt, same}

-- a value, and the node at which it stands
pub record Entry : Type 0 where
  pub node : Path
  pub said : Value

-- an entry
abbrev pub entry : Path → Value → Entry
entry p v = record { node = p; said = v }

-- what a value call at p leaves at the nodes: a `none` is followed by its unit, a `tuple 1` marks nothing
abbrev pub leaves : Path → Value → List Entry
leaves p (scalar k b) = entry p (scalar k b) ∷ []
leaves p (text bs) = entry p (text bs) ∷ []
leaves p unit = entry p unit ∷ []
leaves p none = entry p none ∷ entry (p ▹ alt 0) unit ∷ []
leaves p some = entry p some ∷ []
leaves p (variant i) = entry p (variant i) ∷ []
leaves p (seq n) = entry p (seq n) ∷ []
leaves p (map n) = entry p (map n) ∷ []
leaves p (tuple zero) = entry p (tuple 0) ∷ []
leaves p (tuple (suc zero)) = []
leaves p (tuple (suc (suc n))) = entry p (tuple (suc (suc n))) ∷ []

-- the values at a node, in the order of the calls
abbrev pub at : Path → List Entry → List Value
at q [] = []
at q (e ∷ es) = cond (same e.node q) (e.said ∷ at q es) (at q es)
