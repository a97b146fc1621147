use Rattle.std.proofs.Common.{refl}
use Rattle.document.proofs.Accepted.{replays-within, replays}
use Rattle.document.proofs.laws.replay.Goals as goal

pub returns : goal.returns
returns c = record { answer = refl; within = replays-within; finish = replays }
