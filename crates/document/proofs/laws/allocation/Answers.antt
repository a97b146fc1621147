use Rattle.std.proofs.Common.{refl}
use Rattle.document.proofs.Allotting.{allocation}
use Rattle.document.proofs.laws.allocation.Goals as goal

pub returns : goal.returns
returns c = record { answer = refl; law = allocation }
