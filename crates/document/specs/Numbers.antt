-- Numbers in calls and answers, by their bits.
use Rattle.std.specs.Prelude.{◌≡◌, ℕ, cond, ◌≢◌}
use Rattle.document.specs.declared.scalars.Scalar.{Scalar}
use Rattle.document.specs.declared.scalars.Scalar.TheVariants as scalars
use Rattle.document.specs.declared.questions.Answer.{Answer}
use Rattle.document.specs.declared.questions.Answer.TheVariants as answers
use Rattle.document.specs.Calls.{scalar, Call, val}
use Rattle.document.specs.Said.{bits}

-- a call that is no number
abbrev pub NoNumber : Call → Type 0
NoNumber c = (k : Scalar) (b : ℕ) → c ≢ val (scalar k b)

-- an answer is the number with these bits
abbrev pub Is : Answer → Scalar → ℕ → Type 0
Is (answers.Bool b) k n = (k ≡ scalars.Bool) × (n ≡ cond b 1 0)
Is (answers.U8 x) k n = (k ≡ scalars.U8) × (n ≡ x)
Is (answers.U16 x) k n = (k ≡ scalars.U16) × (n ≡ x)
Is (answers.U32 x) k n = (k ≡ scalars.U32) × (n ≡ x)
Is (answers.U64 x) k n = (k ≡ scalars.U64) × (n ≡ x)
Is (answers.I8 z) k n = (k ≡ scalars.I8) × (n ≡ bits 8 z)
Is (answers.I16 z) k n = (k ≡ scalars.I16) × (n ≡ bits 16 z)
Is (answers.I32 z) k n = (k ≡ scalars.I32) × (n ≡ bits 32 z)
Is (answers.I64 z) k n = (k ≡ scalars.I64) × (n ≡ bits 64 z)
Is (answers.F32 x) k n = (k ≡ scalars.F32) × (n ≡ x)
Is (answers.Text place length) k n = ⊥
Is answers.Unit k n = ⊥
Is answers.None k n = ⊥
Is answers.Some k n = ⊥
Is (answers.Variant i) k n = ⊥
Is (answers.Seq m) k n = ⊥
Is (answers.Map m) k n = ⊥
Is answers.Tuple k n = ⊥
Is answers.End k n = ⊥

-- an answer that is no number
abbrev pub NoNumberIn : Answer → Type 0
NoNumberIn a = (k : Scalar) (b : ℕ) → Is a k b → ⊥
