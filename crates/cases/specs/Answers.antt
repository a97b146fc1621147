-- What the answers to a write and to a read tell.
use Rattle.std.specs.Prelude.{◌≡◌, ℕ, List, take, replicate, Ok, Err, vec_items, Result}
use Rattle.column.specs.declared.fault.Fault.{Fault}
use Rattle.column.specs.Parsed.{told, values_of}
use Rattle.column.specs.Interface.{overlaid, writing, reading}
use Rattle.utf8.specs.Passes.{passes}
use Rattle.cases.specs.declared.answer.Answer.{Answer}
use Rattle.cases.specs.declared.answer.Answer.TheVariants.{Write, Read, Judged, Digest}
use Rattle.cases.specs.declared.digest.Digest.{Digest as Fnv}
use Rattle.cases.specs.declared.question.Question.{Question}
use Rattle.cases.specs.declared.question.Question.TheVariants as questions
use Rattle.cases.specs.Kinds.{meaning_of}

-- what is left of an output: accepted, it has the image at the place; refused, it is what was before the place
abbrev pub Left : Result ℕ Fault → ℕ → List ℕ → List ℕ → List ℕ → Type 0
Left (Ok used) place image old output = output ≡ overlaid place image old
Left (Err fault) place image old output = output ≡ take place old

-- a write's answer: the kind's own, with what is left of the output
abbrev pub Wrote : Answer → Result ℕ Fault → ℕ → List ℕ → List ℕ → Type 0
Wrote (Write result output) r place image old = (r ≡ result) × Left result place image old (vec_items output)
Wrote (Read result) r place image old = ⊥
Wrote (Judged formed) r place image old = ⊥
Wrote (Digest digest) r place image old = ⊥

-- a read's answer: the kind's own, with the values
abbrev pub Heard : Answer → Result ℕ Fault → List ℕ → Type 0
Heard (Write result output) r vs = ⊥
Heard (Read (Ok got)) r vs = (r ≡ Ok got.used) × (vec_items got.values ≡ vs)
Heard (Read (Err fault)) r vs = r ≡ Err fault
Heard (Judged formed) r vs = ⊥
Heard (Digest digest) r vs = ⊥

-- the answer to a question about one call; nothing is said of a digest but that it is one
abbrev pub Answered : Question → Answer → Type 0
Answered (questions.Write call values room place) a =
    Wrote a (writing (meaning_of call.kind) call.layer call.width (vec_items values) room place) place ((meaning_of call.kind).image call.width (vec_items values)) (replicate room 165)
Answered (questions.Read call count input place) a =
    Heard a (told call.layer (reading (meaning_of call.kind) call.width count (vec_items input) place)) (values_of (reading (meaning_of call.kind) call.width count (vec_items input) place))
Answered (questions.Text input) a = a ≡ Judged (passes (vec_items input))
Answered (questions.Reads kind width count set) a = (digest : Fnv) × (a ≡ Digest digest)
Answered (questions.Texts set) a = (digest : Fnv) × (a ≡ Digest digest)
