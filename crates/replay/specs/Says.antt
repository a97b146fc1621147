-- An answer is a call's value.
use Rattle.std.specs.Prelude.{◌≡◌, ℕ, ◌+◌, ◌≤◌, List, length, take, drop}
use Rattle.document.specs.declared.questions.Answer.{Answer}
use Rattle.document.specs.declared.questions.Answer.TheVariants as answers
use Rattle.document.specs.Calls.{scalar, text, unit, none, some, variant, seq, map, tuple, Call, val, end}
use Rattle.document.specs.Numbers.{Is}

-- an answer names a part of the input, and that is the text
pub record Names (a : Answer) (bs input : List ℕ) : Type 0 where
  pub place : ℕ
  pub size : ℕ
  pub is : a ≡ answers.Text place size
  pub within : place + size ≤ length input
  pub part : take size (drop place input) ≡ bs

-- an answer is the call's value: of a text, the part of the input that it names is the text
abbrev pub Says : Answer → Call → List ℕ → Type 0
Says a (val (scalar k b)) input = Is a k b
Says a (val (text bs)) input = Names a bs input
Says a (val unit) input = a ≡ answers.Unit
Says a (val none) input = a ≡ answers.None
Says a (val some) input = a ≡ answers.Some
Says a (val (variant i)) input = a ≡ answers.Variant i
Says a (val (seq n)) input = a ≡ answers.Seq n
Says a (val (map n)) input = a ≡ answers.Map n
Says a (val (tuple n)) input = a ≡ answers.Tuple
Says a end input = a ≡ answers.End
