-- The writer stands for a list of calls.
use Rattle.std.specs.Prelude.{◌≡◌, ℕ, ◌≤◌, List, [], ◌∷◌, ◌++◌, length, Ok, Err, Result}
use Rattle.document.specs.declared.refusals.Refusal.{Refusal}
use Rattle.document.specs.Calls.{Call}
use Rattle.document.specs.Places.{start}
use Rattle.document.specs.Trace.{trace, places_after}
use Rattle.document.specs.Records.{nodes_of}
use Rattle.column.specs.Meaning.{Meaning}
use Rattle.document.specs.Bytes.{bytes}
use Rattle.document.specs.Tables.{cells_of}
use Rattle.document.specs.Verdict.{Accepted, verdict}
use Rattle.document.specs.WriteOut.{none_open, write_out}
use Rattle.nodes.specs.Stack.{stack}
use Rattle.nodes.specs.Placed.{Open}
use Rattle.ser.specs.declared.desk.Desk.{Desk}
use Rattle.ser.specs.Moves.{sheets}
use Rattle.ser.specs.Tables.{sizes_of}
use Rattle.ser.specs.Held.{Holds}
use Rattle.ser.specs.Out.{begins, scratch_after, output_after}

-- The writer stands for the calls: each was accepted after those before it, the tables hold what they leave, and the open places are theirs.
pub record Stands (d : Desk) (cs : List Call) : Type 0 where
  pub accepted : Accepted (sizes_of (sheets d.tables)) cs
  pub holds : Holds (sheets d.tables) (trace start cs)
  pub opens : Open (nodes_of (trace start cs)) (stack d.places) (places_after start cs)
  pub depth : d.places.depth ≤ 32
  pub places : length d.places.table ≡ 32

-- It stands for some calls.
abbrev pub StandsForSome : Desk → Type 0
StandsForSome d = ∥ ((cs : List Call) × Stands d cs) ∥₁

-- What a call told: the verdict of the definitions; refused, the writer is as it was; accepted, it stands for the list with this call added. The tables keep their lengths.
pub record Told (old new : Desk) (cs : List Call) (c : Call) (r : Result (Unit {0}) Refusal) : Type 0 where
  pub told : r ≡ verdict (sizes_of (sheets old.tables)) cs c
  pub refused : (e : Refusal) → r ≡ Err e → new ≡ old
  pub taken : r ≡ Ok tt → Stands new (cs ++ c ∷ [])
  pub sizes : sizes_of (sheets new.tables) ≡ sizes_of (sheets old.tables)

-- What write-out answers and leaves, of a writer that stands for the calls: the bytes begin the output, or the first refusal is told.
-- Where it begins, the scratch is zero afterwards, and the output too where the bytes find no room; else neither is touched.
pub record WrittenOut (col : Meaning) (cs : List Call) (scratch scratch' output output' : List ℕ) (r : Result ℕ Refusal) : Type 0 where
  pub answer : r ≡ write_out col cs (length scratch) (length output)
  pub zeroed : scratch' ≡ scratch_after (begins (none_open (places_after start cs)) (cells_of (trace start cs)) scratch) scratch
  pub written : output' ≡ output_after (begins (none_open (places_after start cs)) (cells_of (trace start cs)) scratch) (bytes col cs) output
