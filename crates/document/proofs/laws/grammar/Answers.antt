use Rattle.std.proofs.Common.{refl}
use Rattle.document.proofs.Parsing.{grammatical}
use Rattle.document.proofs.laws.grammar.Goals as goal

pub returns : goal.returns
returns c = record { answer = refl; law = grammatical }
