-- What one call, or question, tells and takes.
use Rattle.std.specs.Prelude.{ℕ, length, nat_le, if◌then◌else◌}
use Rattle.document.specs.declared.calls.Call.{Call}
use Rattle.document.specs.declared.calls.Call.TheVariants as calls
use Rattle.document.specs.declared.questions.Question.{Question}
use Rattle.document.specs.declared.questions.Question.TheVariants as questions

-- the length that a call tells
abbrev pub length_told : Call → ℕ
length_told (calls.Seq n) = n
length_told (calls.Map n) = n
length_told (calls.Text bytes) = length bytes.now
length_told _ = 0

-- the cells that a call takes
abbrev pub cells_taken : Call → ℕ
cells_taken calls.Unit = 0
cells_taken (calls.Tuple n) = 0
cells_taken calls.End = 0
cells_taken c = (if nat_le 255 (length_told c) then 2 else 1)

-- the most node records that a question, or its call, can take
abbrev pub most_records : Question → ℕ
most_records (questions.Seq flag) = 1
most_records questions.Option = 1
most_records questions.Variant = 1
most_records (questions.Map flag) = 2
most_records (questions.Tuple n) = n
most_records _ = 0
