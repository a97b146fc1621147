use Rattle.std.proofs.Common.{refl}
use Rattle.document.proofs.Accepted.{conservation}
use Rattle.document.proofs.laws.conservation.Goals as goal

pub returns : goal.returns
returns c = record { answer = refl; law = conservation }
