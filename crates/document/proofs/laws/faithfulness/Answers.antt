use Rattle.std.proofs.Common.{refl}
use Rattle.document.proofs.Accepted.{faithful}
use Rattle.document.proofs.laws.faithfulness.Goals as goal

pub returns : goal.returns
returns c = record { answer = refl; law = faithful }
