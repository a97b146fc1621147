-- What the tables owe to the proof that a call tells the truth: their verdict is that of the definitions, and a value that they take is entered in them.
use Rattle.std.proofs.Common.{◌≡◌, ℕ, List, ◌++◌, Ok}
use Rattle.document.specs.Calls.{Value, Call, val}
use Rattle.document.specs.Nodes.{Path}
use Rattle.document.specs.Entries.{Entry, leaves}
use Rattle.document.specs.Places.{opens, start}
use Rattle.document.specs.Trace.{trace}
use Rattle.document.specs.Records.{nodes_of}
use Rattle.document.specs.Verdict.{Real, Accepted, weighed}
use Rattle.nodes.specs.Homes.{Home}
use Rattle.nodes.specs.Placed.{Opens}
use Rattle.ser.specs.Brings.{index_of}
use Rattle.ser.specs.Moves.{Sheets, branch_in, entered_child}
use Rattle.ser.specs.Tables.{sizes_of, weighed_at}
use Rattle.ser.specs.Steps.{opened_at, entered_at}
use Rattle.ser.specs.Held.{Holds}

-- a value at the record r of the node p is entered: the tables hold its entries too and are as long as they were, and it opens its place
pub record Entered (T : Sheets) (ts : List Entry) (r : ℕ) (p : Path) (v : Value) : Type 0 where
  pub holds : Holds (entered_at T r (val v)) (ts ++ leaves p v)
  pub sizes : sizes_of (entered_at T r (val v)) ≡ sizes_of T
  pub opened : Opens (nodes_of (ts ++ leaves p v)) (opened_at (entered_at T r (val v)) r (entered_child r (branch_in T r (index_of v)) (val v) T) (val v)) (opens p v)

-- the verdict that is asked of the tables is that of the definitions
abbrev pub Judges : Type 0
Judges =
    (T : Sheets) (cs : List Call) → Accepted (sizes_of T) cs → Holds T (trace start cs) → (r : ℕ) (p : Path) → Home (nodes_of (trace start cs)) r p
    → (v : Value) → weighed_at T r (branch_in T r (index_of v)) (val v) ≡ weighed (sizes_of T) (trace start cs) v (leaves p v)

-- a value that the tables take is entered
abbrev pub Enters : Type 0
Enters =
    (T : Sheets) (cs : List Call) → Accepted (sizes_of T) cs → Holds T (trace start cs) → (r : ℕ) (p : Path) → Home (nodes_of (trace start cs)) r p
    → (v : Value) → Real (val v) → weighed_at T r (branch_in T r (index_of v)) (val v) ≡ Ok tt → Entered T (trace start cs) r p v
