-- What a reader stands for, and what a question tells.
use Rattle.std.specs.Prelude.{Result}
use Rattle.document.specs.declared.refusals.Refusal.{Refusal}
use Rattle.document.specs.declared.questions.Answer.{Answer}
use Rattle.document.specs.Reader.{Reading, Reply}
use Rattle.de.specs.declared.reader.Reader.{Reader}
use Rattle.de.specs.Moves.{sheets}
use Rattle.de.specs.Served.{SameLengths}
use Rattle.de.specs.Standing.{Stands, Told}

-- the reader stands for a reading of its input
abbrev pub StandsFor : {C : Type 0} → Reader C → Reading → Type 0
StandsFor r R = Stands r.desk r.input.now R

-- what a question told of a reader that stood for R
abbrev pub Tells : {C : Type 0} → Reader C → Reader C → Reading → Reply → Result Answer Refusal → Type 0
Tells old new R a res = Told old.input.now R old.desk new.desk a res

-- the reader's tables keep their lengths
abbrev pub KeepsLengths : {C : Type 0} → Reader C → Reader C → Type 0
KeepsLengths old new = SameLengths (sheets old.desk.tables) (sheets new.desk.tables)
