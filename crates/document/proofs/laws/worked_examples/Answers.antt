use Rattle.std.proofs.Common.{refl}
use Rattle.column.specs.Short.{leb128}
use Rattle.utf8.specs.Passes.{passes, passes_in}
use Rattle.document.specs.Columns.{columns}
use Rattle.document.specs.Fetch.{fetch}
use Rattle.document.proofs.laws.worked_examples.Goals as goal

pub returns : goal.returns
unfolding leb128 passes passes_in columns fetch
returns c = record { answer = refl; law = refl }
