-- The answer that a node's next value makes.
use Rattle.std.specs.Prelude.{◌≡◌, ℕ, ◌+◌, ◌<◌, ◌≤◌, List, [], ◌∷◌, length, Err, Result, slice_index}
use Rattle.document.specs.declared.refusals.Refusal.{Refusal}
use Rattle.document.specs.declared.refusals.Refusal.TheVariants as refusals
use Rattle.document.specs.declared.questions.Answer.{Answer}
use Rattle.document.specs.declared.questions.Question.{Question}
use Rattle.document.specs.declared.questions.Question.TheVariants as questions
use Rattle.document.specs.Calls.{Cell}
use Rattle.document.specs.Reader.{Ask, worth_of}
use Rattle.de.specs.declared.view.Sight.{Sight}
use Rattle.de.specs.Moves.{Sheets}
use Rattle.de.specs.Asked.{Fitting, Sized}
use Rattle.de.specs.Answered.{Worthy}

-- the number of the node's next value
abbrev pub next_number : Sheets → Sight → ℕ
next_number T x = slice_index T.slots (x.first + x.done)

-- the next value stands in the slots and fits the question
abbrev pub Stands : Sheets → Sight → Question → Type 0
Stands T x (questions.Scalar k) = (x.first + x.done < length T.slots) × Fitting (questions.Scalar k) (next_number T x)
Stands T x questions.Text = x.first + x.done < length T.slots
Stands T x questions.Unit = Unit {0}
Stands T x questions.Option = x.first + x.done < length T.slots
Stands T x questions.Variant = (x.first + x.done < length T.slots) × Fitting questions.Variant (next_number T x)
Stands T x (questions.Seq flag) = x.first + x.done < length T.slots
Stands T x (questions.Map flag) = x.first + x.done < length T.slots
Stands T x (questions.Tuple n) = Unit {0}
Stands T x questions.End = Unit {0}

-- what hearing asks: bounds alone
pub record HearSafe (T : Sheets) (x : Sight) (q : Question) : Type 0 where
  pub left : x.done ≤ x.count
  pub stands : x.done < x.count → Stands T x q

-- these cells of the node are left
abbrev pub HeardIn : Sheets → Sight → Ask → List Cell → Type 0
HeardIn T x a [] = x.done ≡ x.count
HeardIn T x a (c ∷ cs) = (x.done < x.count) × Sized a c (next_number T x)

-- what their first is worth
abbrev pub Heard : Ask → List Cell → ℕ → Result Answer Refusal → Type 0
Heard a [] place res = res ≡ Err refusals.Count
Heard a (c ∷ cs) place res = Worthy (worth_of a c) place res
