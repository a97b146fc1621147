-- The lengths of a told writer's tables.
use Rattle.std.proofs.Common.{◌≡◌, List, Ok, Err, Result}
use Rattle.document.specs.declared.refusals.Refusal.{Refusal}
use Rattle.document.specs.Calls.{Call}
use Rattle.document.specs.Verdict.{Sizes}
use Rattle.ser.specs.declared.desk.Desk.{Desk}
use Rattle.ser.specs.Moves.{sheets}
use Rattle.ser.specs.Tables.{sizes_of}
use Rattle.states.specs.Adding.{TellsAll}

-- a writer that was told a state has tables of these lengths, whatever it answered
pub told-sizes : (sizes : Sizes) (d : Desk) (xs : List Call) (r : Result (Unit {0}) Refusal) → TellsAll sizes d xs r → sizes_of (sheets d.tables) ≡ sizes
told-sizes sizes d xs (Ok done) told = told.1
told-sizes sizes d xs (Err refusal) told = told.kept
