-- Each named kind is lawful.
-- No contract cites this file: it stands in specs/ because an impl proves its law in the code, which can name files of specs/ alone.
use Rattle.column.specs.Meaning.{Lawful}
use Rattle.column.specs.Laws.Coded.{coded-lawful}
use Rattle.column.specs.Laws.Flat.{flat-coding}
use Rattle.column.specs.Laws.Layer.{layer-lawful}
use Rattle.column.specs.Laws.Short.{short-coding}
use Rattle.column.specs.Laws.Steps.{steps-undone}
use Rattle.column.specs.Flat.{flat}
use Rattle.column.specs.Short.{short_kind}
use Rattle.column.specs.Meaning.{Meaning}
use Rattle.column.specs.Steps.{differences, sums, steps}
use Rattle.cases.specs.declared.kind.Kind.{Kind}
use Rattle.cases.specs.declared.kind.Kind.TheVariants.{Flat, Short, StepsFlat, StepsShort, StepsStepsFlat, StepsStepsShort}
use Rattle.cases.specs.Kinds.{meaning_of}

flat-lawful : Lawful flat
flat-lawful = coded-lawful flat-coding

short-lawful : Lawful short_kind
short-lawful = coded-lawful short-coding

steps-lawful : (lower : Meaning) → Lawful lower → Lawful (steps lower)
steps-lawful = layer-lawful (λ w. differences w 0) (λ w. sums w 0) steps-undone

pub kind-lawful : (kind : Kind) → Lawful (meaning_of kind)
kind-lawful Flat = flat-lawful
kind-lawful Short = short-lawful
kind-lawful StepsFlat = steps-lawful flat flat-lawful
kind-lawful StepsShort = steps-lawful short_kind short-lawful
kind-lawful StepsStepsFlat = steps-lawful (steps flat) (steps-lawful flat flat-lawful)
kind-lawful StepsStepsShort = steps-lawful (steps short_kind) (steps-lawful short_kind short-lawful)
