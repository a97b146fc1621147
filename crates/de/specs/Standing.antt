-- The reader stands for a state of the definitions' reader, and what a question tells.
use Rattle.std.specs.Prelude.{◌≡◌, ℕ, ◌≤◌, List, [], ◌∷◌, length, Ok, Err, Result}
use Rattle.document.specs.declared.refusals.Refusal.{Refusal}
use Rattle.document.specs.declared.refusals.Refusal.TheVariants as refusals
use Rattle.document.specs.declared.questions.Answer.{Answer}
use Rattle.document.specs.Nodes.{Path}
use Rattle.document.specs.Places.{Place}
use Rattle.document.specs.Reader.{Reading, Reply, reply, refuse}
use Rattle.nodes.specs.Stack.{stack}
use Rattle.nodes.specs.Placed.{Open}
use Rattle.de.specs.declared.desk.Desk.{Desk}
use Rattle.de.specs.Moves.{sheets}
use Rattle.de.specs.Reads.{Reads}
use Rattle.de.specs.Answered.{Answers, Within}
use Rattle.de.specs.Served.{Spared, SameLengths}

-- The reader over this input stands for a reading: its tables for the store, with a record for each of some nodes, and its open places for the reading's.
pub record Stands (d : Desk) (input : List ℕ) (R : Reading) : Type 0 where
  pub nodes : List Path
  pub reads : Reads (sheets d.tables) nodes input R.store
  pub opens : Open nodes (stack d.places) R.places
  pub depth : d.places.depth ≤ 32
  pub table : length d.places.table ≡ 32

-- What a question told: the refusal of the definitions, and the reader stands for the same reading and is as it was, but for slots that are not taken;
-- or the definitions' answer, where a text's names a part of the input, and the reader stands for the reading after it, with tables of the same lengths.
abbrev pub Told : List ℕ → Reading → Desk → Desk → Reply → Result Answer Refusal → Type 0
Told input R old new (refuse e) res = (res ≡ Err e) × (new.places ≡ old.places) × Spared (sheets old.tables) (sheets new.tables) × Stands new input R
Told input R old new (reply c place R') res = (a : Answer) × (res ≡ Ok a) × Answers a c place × Within input c place × SameLengths (sheets old.tables) (sheets new.tables) × Stands new input R'

-- finish: no place may be open, and no byte may be left
abbrev pub ended : List Place → List ℕ → Result (Unit {0}) Refusal
ended [] [] = Ok tt
ended [] (b ∷ bs) = Err refusals.Left
ended (f ∷ fs) bs = Err refusals.Early

-- .. of a reading
abbrev pub finishing : Reading → Result (Unit {0}) Refusal
finishing R = ended R.places R.store.input
