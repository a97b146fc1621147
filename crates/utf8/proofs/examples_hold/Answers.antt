use Rattle.std.proofs.Common.{refl}
use Rattle.utf8.specs.Passes.{passes, passes_in}
use Rattle.utf8.proofs.examples_hold.Goals as goal

pub returns : goal.returns
unfolding passes passes_in
returns c = record { value = refl; holds = refl }
