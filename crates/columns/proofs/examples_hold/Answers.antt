use Rattle.std.proofs.Common.{refl}
use Rattle.column.specs.Short.{leb128}
use Rattle.utf8.specs.Passes.{passes, passes_in}
use Rattle.columns.proofs.examples_hold.Goals as goal

pub returns : goal.returns
unfolding leb128 passes passes_in
returns c = record { value = refl; holds = refl }
