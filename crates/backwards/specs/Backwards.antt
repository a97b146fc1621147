-- The kind that passes the values on in reverse order.
use Rattle.std.specs.Prelude.{reverse}
use Rattle.column.specs.Meaning.{Meaning}
use Rattle.column.specs.Layer.{layer}

abbrev pub backwards : Meaning → Meaning
backwards = layer (λ _. reverse) (λ _. reverse)
