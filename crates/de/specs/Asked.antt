-- What a question asks for, and what an answer brings, as the code has them.
use Rattle.std.specs.Prelude.{◌≡◌, ℕ, ◌^◌, ◌<◌, Bool, true, false, Option}
use Rattle.std.specs.declared.option.Option.TheVariants as options
use Rattle.document.specs.declared.questions.Answer.{Answer}
use Rattle.document.specs.declared.questions.Answer.TheVariants as answers
use Rattle.document.specs.declared.questions.Question.{Question}
use Rattle.document.specs.declared.questions.Question.TheVariants as questions
use Rattle.document.specs.Calls.{width, Cell, num}
use Rattle.document.specs.Reader.{Ask, scalar?, text?, option?, variant?, seq?, map?, tuple?, letter_count}
use Rattle.nodes.specs.declared.marks.Mark.{Mark}
use Rattle.nodes.specs.declared.marks.Mark.TheVariants as marks

-- the kind that a question asks for; `unit` and `end` ask nothing of a node
abbrev pub marking : Question → Mark
marking (questions.Scalar k) = marks.Scalar k
marking questions.Text = marks.Text
marking questions.Unit = marks.Unmarked
marking questions.Option = marks.Enum
marking questions.Variant = marks.Enum
marking (questions.Seq flag) = marks.Seq
marking (questions.Map flag) = marks.Map
marking (questions.Tuple n) = marks.Tuple n
marking questions.End = marks.Unmarked

-- whether a question opens a place whatever the answer
abbrev pub opens_any : Question → Bool
opens_any questions.Variant = true
opens_any (questions.Seq flag) = true
opens_any (questions.Map flag) = true
opens_any (questions.Tuple n) = true
opens_any _ = false

-- whether an answer opens a place
abbrev pub opens_place : Answer → Bool
opens_place answers.Some = true
opens_place (answers.Variant i) = true
opens_place (answers.Seq n) = true
opens_place (answers.Map n) = true
opens_place answers.Tuple = true
opens_place _ = false

-- the index whose child the value that follows stands at
abbrev pub branching : Answer → Option ℕ
branching answers.Some = options.Some 1
branching (answers.Variant i) = options.Some i
branching _ = options.None

-- the number of bytes of a text
abbrev pub letters_of : Answer → ℕ
letters_of (answers.Text place length) = length
letters_of _ = 0

-- a number fits what the question makes of it
abbrev pub Fitting : Question → ℕ → Type 0
Fitting (questions.Scalar k) n = n < 2 ^ width k
Fitting questions.Variant n = n < 2 ^ 32
Fitting _ n = Unit {0}

-- the number of a cell as the slots have it: of a text the number of its bytes
abbrev pub Sized : Ask → Cell → ℕ → Type 0
Sized (scalar? k) c n = num c ≡ n
Sized text? c n = letter_count c ≡ n
Sized option? c n = num c ≡ n
Sized variant? c n = num c ≡ n
Sized (seq? flag) c n = num c ≡ n
Sized (map? flag) c n = num c ≡ n
Sized (tuple? m) c n = Unit {0}
