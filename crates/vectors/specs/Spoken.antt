-- Calls that own their text, and how the lines of a data file spell calls and questions.
use Rattle.std.specs.Prelude.{◌≡◌, ◌⊎◌, ℕ, List, [], Bool, false, cond, Ok, codes, vec_items}
use Rattle.std.specs.Str.Parse.{digits_value, without_leading_plus, signed_digits_value}
use Rattle.hex.specs.Hex.{decode_of}
use Rattle.document.specs.declared.calls.Call.{Call as Spoken}
use Rattle.document.specs.declared.calls.Call.TheVariants as spoken
use Rattle.document.specs.declared.questions.Question.{Question}
use Rattle.document.specs.declared.questions.Question.TheVariants as questions
use Rattle.document.specs.declared.scalars.Scalar.{Scalar}
use Rattle.document.specs.declared.scalars.Scalar.TheVariants as scalars
use Rattle.document.specs.Calls.{text, Call, val}
use Rattle.document.specs.Said.{said}
use Rattle.vectors.specs.declared.calls.Told.{Told}
use Rattle.vectors.specs.declared.calls.Told.TheVariants.{Plain, Text}

-- the call that one says
abbrev pub said_by : Told → Call
said_by (Plain call) = said call
said_by (Text bytes) = val (text (vec_items bytes))

-- whether a question carries the flag of no size
abbrev pub flag_of : Question → Bool
flag_of (questions.Seq flag) = flag
flag_of (questions.Map flag) = flag
flag_of _ = false

-- a text spells a call's value; a tuple's length stands in its question, and `unit` and `end` have none
abbrev pub Spells : Spoken → List ℕ → Type 0
Spells (spoken.Bool b) bs = bs ≡ cond b (codes "1") (codes "0")
Spells (spoken.U8 n) bs = n ≡ digits_value 10 (without_leading_plus bs)
Spells (spoken.U16 n) bs = n ≡ digits_value 10 (without_leading_plus bs)
Spells (spoken.U32 n) bs = n ≡ digits_value 10 (without_leading_plus bs)
Spells (spoken.U64 n) bs = n ≡ digits_value 10 (without_leading_plus bs)
Spells (spoken.I8 z) bs = z ≡ signed_digits_value 10 bs
Spells (spoken.I16 z) bs = z ≡ signed_digits_value 10 bs
Spells (spoken.I32 z) bs = z ≡ signed_digits_value 10 bs
Spells (spoken.I64 z) bs = z ≡ signed_digits_value 10 bs
Spells (spoken.F32 n) bs = n ≡ digits_value 10 (without_leading_plus bs)
Spells spoken.None bs = bs ≡ codes "none"
Spells spoken.Some bs = bs ≡ codes "some"
Spells (spoken.Variant i) bs = i ≡ digits_value 10 (without_leading_plus bs)
Spells (spoken.Seq n) bs = n ≡ digits_value 10 (without_leading_plus bs)
Spells (spoken.Map n) bs = n ≡ digits_value 10 (without_leading_plus bs)
Spells _ bs = Unit {0}

-- a text spells bytes
abbrev pub SpellsBytes : List ℕ → List ℕ → Type 0
SpellsBytes bytes bs = ((bs ≡ codes "-") × (bytes ≡ [])) ⊎ (decode_of bs ≡ Ok bytes)

-- a text spells the value of a call that owns its text
abbrev pub SpellsTold : Told → List ℕ → Type 0
SpellsTold (Plain call) bs = Spells call bs
SpellsTold (Text bytes) bs = SpellsBytes (vec_items bytes) bs

-- the word of a kind of number
abbrev pub scalar_word : Scalar → List ℕ
scalar_word scalars.Bool = codes "bool"
scalar_word scalars.U8 = codes "u8"
scalar_word scalars.U16 = codes "u16"
scalar_word scalars.U32 = codes "u32"
scalar_word scalars.U64 = codes "u64"
scalar_word scalars.I8 = codes "i8"
scalar_word scalars.I16 = codes "i16"
scalar_word scalars.I32 = codes "i32"
scalar_word scalars.I64 = codes "i64"
scalar_word scalars.F32 = codes "f32"

-- a text is a question's word; nothing is said of a tuple's
abbrev pub IsWordOf : List ℕ → Question → Type 0
IsWordOf bs (questions.Scalar kind) = bs ≡ scalar_word kind
IsWordOf bs questions.Text = bs ≡ codes "text"
IsWordOf bs questions.Unit = bs ≡ codes "unit"
IsWordOf bs questions.Option = bs ≡ codes "option"
IsWordOf bs questions.Variant = bs ≡ codes "variant"
IsWordOf bs (questions.Seq flag) = bs ≡ cond flag (codes "seq!") (codes "seq")
IsWordOf bs (questions.Map flag) = bs ≡ cond flag (codes "map!") (codes "map")
IsWordOf bs (questions.Tuple n) = Unit {0}
IsWordOf bs questions.End = bs ≡ codes "end"
