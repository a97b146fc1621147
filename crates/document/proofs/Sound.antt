-- What a node may hold, and that the nodes of an accepted list hold nothing else.
use Rattle.std.proofs.Common.{◌≡◌, ◌+◌, ◌^◌, ◌<◌, ◌≤◌, true, List, [], ◌∷◌}
use Rattle.std.specs.List.{AllByRecursion}
use Rattle.utf8.specs.Passes.{passes}
use Rattle.document.specs.Calls.{width, total, extent, Value, scalar, text, unit, none, some, variant, seq, map, tuple, kind, Call}
use Rattle.document.specs.Nodes.{Path}
use Rattle.document.specs.Entries.{at}
use Rattle.document.specs.Places.{start, Complete}
use Rattle.document.specs.Trace.{trace}
use Rattle.document.specs.Columns.{limit}
use Rattle.document.specs.Tables.{cells_of, records_of, usable_nodes, usable_cells}
use Rattle.document.specs.Verdict.{Sizes}

-- a value that its column can hold
abbrev pub Fits : Value → Type 0
Fits (scalar k b) = b < 2 ^ width k
Fits (text bs) = passes bs ≡ true
Fits unit = Unit {0}
Fits none = Unit {0}
Fits some = Unit {0}
Fits (variant i) = i ≤ 255
Fits (seq n) = Unit {0}
Fits (map n) = Unit {0}
Fits (tuple n) = Unit {0}

-- every value at a node is of the first one's kind
abbrev pub OneKind : List Value → Type 0
OneKind [] = Unit {0}
OneKind (v ∷ vs) = AllByRecursion (λ u. kind u ≡ kind v) vs

pub record Sound (vs : List Value) : Type 0 where
  pub one-kind : OneKind vs
  pub fits : AllByRecursion Fits vs
  pub short-of : total extent vs < limit

-- one whole value, every call in its place, every node sound, and within the tables
pub record Sane (sizes : Sizes) (cs : List Call) : Type 0 where
  pub complete : Complete start cs
  pub sound : (p : Path) → Sound (at p (trace start cs))
  pub within-nodes : 1 + records_of (trace start cs) ≤ usable_nodes sizes.nodes
  pub within-cells : cells_of (trace start cs) ≤ usable_cells sizes.cells
