-- What a writer was told: calls that it took, and the first that it refused.
use Rattle.std.specs.Prelude.{◌≡◌, List, [], ◌∷◌, ◌++◌, Ok, Err, Result}
use Rattle.document.specs.declared.refusals.Refusal.{Refusal}
use Rattle.document.specs.Calls.{Call}
use Rattle.document.specs.Verdict.{Sizes, verdict}
use Rattle.ser.specs.declared.desk.Desk.{Desk}
use Rattle.ser.specs.declared.writer.Writer.{Writer}
use Rattle.ser.specs.Moves.{sheets}
use Rattle.ser.specs.Tables.{sizes_of}
use Rattle.ser.specs.Standing.{Stands}
use Rattle.replay.specs.Given.{sizes_at}

-- the new writer stands for these calls after those that the old one stood for, and its tables have the old one's lengths
pub record Adds (old new : Writer) (more : List Call) : Type 0 where
  pub stands : (cs : List Call) → Stands old.desk cs → Stands new.desk (cs ++ more)
  pub sizes : (cs : List Call) → Stands old.desk cs → sizes_at new ≡ sizes_at old

-- one of these calls was refused: the writer stands for those before it, after cs, and its verdict at these lengths was told
pub record Stopped (sizes : Sizes) (new : Desk) (cs more : List Call) (r : Refusal) : Type 0 where
  pub before : List Call
  pub refused : Call
  pub after : List Call
  pub parts : more ≡ before ++ refused ∷ after
  pub stands : Stands new (cs ++ before)
  pub told : Err r ≡ verdict sizes (cs ++ before) refused
  pub kept : sizes_of (sheets new.tables) ≡ sizes

-- .. whatever the old writer stood for
pub record Stops (old new : Writer) (more : List Call) (r : Refusal) : Type 0 where
  pub stopped : (cs : List Call) → Stands old.desk cs → Stopped (sizes_at old) new.desk cs more r

-- the calls were told until one was refused
abbrev pub Tells : Writer → Writer → List Call → Result (Unit {0}) Refusal → Type 0
Tells old new more (Ok done) = Adds old new more
Tells old new more (Err r) = Stops old new more r

-- .. to a writer that stood for none, over tables of these lengths, which stay
abbrev pub TellsAll : Sizes → Desk → List Call → Result (Unit {0}) Refusal → Type 0
TellsAll sizes new more (Ok done) = Stands new more × (sizes_of (sheets new.tables) ≡ sizes)
TellsAll sizes new more (Err r) = Stopped sizes new [] more r
