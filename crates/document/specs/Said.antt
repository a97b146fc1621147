-- The calls and questions of the code, as the definitions have them.
use Rattle.std.specs.Prelude.{ℕ, suc, ◌-◌, ◌^◌, Bool, cond, ℤ, pos, negsuc}
use Rattle.document.specs.declared.scalars.Scalar.TheVariants as scalars
use Rattle.document.specs.declared.calls.Call.{Call as Spoken}
use Rattle.document.specs.declared.calls.Call.TheVariants as spoken
use Rattle.document.specs.declared.questions.Question.{Question}
use Rattle.document.specs.declared.questions.Question.TheVariants as questions
use Rattle.document.specs.Calls.{scalar, text, unit, none, some, variant, seq, map, tuple, Call, val, end}

-- a signed number's bits: two's complement
abbrev pub bits : ℕ → ℤ → ℕ
bits w (pos n) = n
bits w (negsuc n) = 2 ^ w - suc n

-- the question that asks for a call; a seq's and a map's carries the flag
abbrev pub asked : Bool → Call → Question
asked flag (val (scalar k b)) = questions.Scalar k
asked flag (val (text bs)) = questions.Text
asked flag (val unit) = questions.Unit
asked flag (val none) = questions.Option
asked flag (val some) = questions.Option
asked flag (val (variant i)) = questions.Variant
asked flag (val (seq n)) = questions.Seq flag
asked flag (val (map n)) = questions.Map flag
asked flag (val (tuple n)) = questions.Tuple n
asked flag end = questions.End

-- what a call says
abbrev pub said : Spoken → Call
said (spoken.Bool b) = val (scalar scalars.Bool (cond b 1 0))
said (spoken.U8 n) = val (scalar scalars.U8 n)
said (spoken.U16 n) = val (scalar scalars.U16 n)
said (spoken.U32 n) = val (scalar scalars.U32 n)
said (spoken.U64 n) = val (scalar scalars.U64 n)
said (spoken.I8 z) = val (scalar scalars.I8 (bits 8 z))
said (spoken.I16 z) = val (scalar scalars.I16 (bits 16 z))
said (spoken.I32 z) = val (scalar scalars.I32 (bits 32 z))
said (spoken.I64 z) = val (scalar scalars.I64 (bits 64 z))
said (spoken.F32 n) = val (scalar scalars.F32 n)
said (spoken.Text bytes) = val (text bytes.now)
said spoken.Unit = val unit
said spoken.None = val none
said spoken.Some = val some
said (spoken.Variant i) = val (variant i)
said (spoken.Seq n) = val (seq n)
said (spoken.Map n) = val (map n)
said (spoken.Tuple n) = val (tuple n)
said spoken.End = end
