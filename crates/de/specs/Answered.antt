-- The answers of the code, as the definitions have them: the call that an answer makes, with the place of a text.
use Rattle.std.specs.Prelude.{◌≡◌, ℕ, ◌+◌, ◌≤◌, List, length, Ok, Err, Result}
use Rattle.document.specs.declared.refusals.Refusal.{Refusal}
use Rattle.document.specs.declared.questions.Answer.{Answer}
use Rattle.document.specs.declared.questions.Answer.TheVariants as answers
use Rattle.document.specs.declared.questions.Question.{Question}
use Rattle.document.specs.declared.questions.Question.TheVariants as questions
use Rattle.document.specs.Calls.{scalar, text, unit, none, some, variant, seq, map, tuple, Call, val, end}
use Rattle.document.specs.Numbers.{Is}
use Rattle.document.specs.Reader.{Ask, scalar?, text?, option?, variant?, seq?, map?, tuple?, Worth, worth, worthless}

-- an answer is this call's value: a number by its bits, a text by its place in the input and its length
abbrev pub Answers : Answer → Call → ℕ → Type 0
Answers a (val (scalar k b)) place = Is a k b
Answers a (val (text bs)) place = a ≡ answers.Text place (length bs)
Answers a (val unit) place = a ≡ answers.Unit
Answers a (val none) place = a ≡ answers.None
Answers a (val some) place = a ≡ answers.Some
Answers a (val (variant i)) place = a ≡ answers.Variant i
Answers a (val (seq n)) place = a ≡ answers.Seq n
Answers a (val (map n)) place = a ≡ answers.Map n
Answers a (val (tuple n)) place = a ≡ answers.Tuple
Answers a end place = a ≡ answers.End

-- the part that a text's answer names lies in the input
abbrev pub Within : List ℕ → Call → ℕ → Type 0
Within input (val (scalar k b)) place = Unit {0}
Within input (val (text bs)) place = place + length bs ≤ length input
Within input (val unit) place = Unit {0}
Within input (val none) place = Unit {0}
Within input (val some) place = Unit {0}
Within input (val (variant i)) place = Unit {0}
Within input (val (seq n)) place = Unit {0}
Within input (val (map n)) place = Unit {0}
Within input (val (tuple n)) place = Unit {0}
Within input end place = Unit {0}

-- the question that asks a node for a value
abbrev pub question_of : Ask → Question
question_of (scalar? k) = questions.Scalar k
question_of text? = questions.Text
question_of option? = questions.Option
question_of variant? = questions.Variant
question_of (seq? flag) = questions.Seq flag
question_of (map? flag) = questions.Map flag
question_of (tuple? n) = questions.Tuple n

-- what a cell is worth to a question, and so the answer
abbrev pub Worthy : Worth → ℕ → Result Answer Refusal → Type 0
Worthy (worth v) place r = (a : Answer) × (r ≡ Ok a) × Answers a (val v) place
Worthy (worthless e) place r = r ≡ Err e
