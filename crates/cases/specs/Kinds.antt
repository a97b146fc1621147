-- What the named kinds mean.
use Rattle.column.specs.Meaning.{Meaning}
use Rattle.column.specs.Flat.{flat}
use Rattle.column.specs.Short.{short_kind}
use Rattle.column.specs.Steps.{steps}
use Rattle.cases.specs.declared.kind.Kind.{Kind}
use Rattle.cases.specs.declared.kind.Kind.TheVariants.{Flat, Short, StepsFlat, StepsShort, StepsStepsFlat, StepsStepsShort}

abbrev pub meaning_of : Kind → Meaning
meaning_of Flat = flat
meaning_of Short = short_kind
meaning_of StepsFlat = steps flat
meaning_of StepsShort = steps short_kind
meaning_of StepsStepsFlat = steps (steps flat)
meaning_of StepsStepsShort = steps (steps short_kind)
