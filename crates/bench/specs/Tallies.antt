-- What answers count.
use Rattle.std.specs.Prelude.{ℕ, ◌-◌, List, length, cond, slice_index}
use Rattle.document.specs.declared.questions.Answer.{Answer}
use Rattle.document.specs.declared.questions.Answer.TheVariants as answers
use Rattle.document.specs.Said.{bits}

-- a number by its bits, an index, a length
abbrev pub amount : Answer → ℕ
amount (answers.Bool b) = cond b 1 0
amount (answers.U8 n) = n
amount (answers.U16 n) = n
amount (answers.U32 n) = n
amount (answers.U64 n) = n
amount (answers.I8 z) = bits 8 z
amount (answers.I16 z) = bits 16 z
amount (answers.I32 z) = bits 32 z
amount (answers.I64 z) = bits 64 z
amount (answers.F32 n) = n
amount (answers.Text place length) = length
amount answers.Unit = 0
amount answers.None = 0
amount answers.Some = 1
amount (answers.Variant i) = i
amount (answers.Seq n) = n
amount (answers.Map n) = n
amount answers.Tuple = 0
amount answers.End = 0

-- the last byte of a text, 0 of none
abbrev pub last_of : List ℕ → ℕ
last_of bs = slice_index bs (length bs - 1)
