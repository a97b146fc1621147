-- Marks by number, and kinds.
use Rattle.std.proofs.Common.{◌≡◌, ℕ, ◌+◌, ◌-◌, Bool, true, false, cond, eqb, ltb, refl, sym, ap, ◌∙◌, arith}
use Rattle.std.proofs.lemmas.Bool.{cond-false, eq-eqb, ne_eqb, le-ltb}
use Rattle.document.specs.declared.scalars.Scalar.{Scalar}
use Rattle.document.specs.declared.scalars.Scalar.TheVariants as scalars
use Rattle.document.specs.Calls.{Kind, SCALAR, TEXT, SEQ, MAP, ENUM, UNIT, TUPLE}
use Rattle.document.specs.Verdict.{kind_number}
use Rattle.nodes.specs.declared.marks.Mark.{Mark}
use Rattle.nodes.specs.declared.marks.Mark.TheVariants as marks
use Rattle.nodes.specs.Marks.{mark_number, mark_of}

-- A kind's mark has the number after the kind's.
pub mark-number : (K : Kind) → mark_number (mark_of K) ≡ 1 + kind_number K
mark-number (SCALAR k) = refl
mark-number TEXT = refl
mark-number SEQ = refl
mark-number MAP = refl
mark-number ENUM = refl
mark-number UNIT = refl
mark-number (TUPLE n) = omega arith

-- the mark of a number
abbrev scalar_of : ℕ → Scalar
scalar_of n = cond (eqb n 0) scalars.Bool (cond (eqb n 1) scalars.U8 (cond (eqb n 2) scalars.U16 (cond (eqb n 3) scalars.U32 (cond (eqb n 4) scalars.U64
    (cond (eqb n 5) scalars.I8 (cond (eqb n 6) scalars.I16 (cond (eqb n 7) scalars.I32 (cond (eqb n 8) scalars.I64 scalars.F32))))))))

abbrev numbered : ℕ → Mark
numbered n = cond (eqb n 0) marks.Unmarked (cond (ltb n 11) (marks.Scalar (scalar_of (n - 1))) (cond (eqb n 11) marks.Text (cond (eqb n 12) marks.Seq
    (cond (eqb n 13) marks.Map (cond (eqb n 14) marks.Enum (cond (eqb n 15) marks.Unit (marks.Tuple (n - 16))))))))

numbered-back : (m : Mark) → numbered (mark_number m) ≡ m
numbered-back marks.Unmarked = refl
numbered-back (marks.Scalar scalars.Bool) = refl
numbered-back (marks.Scalar scalars.U8) = refl
numbered-back (marks.Scalar scalars.U16) = refl
numbered-back (marks.Scalar scalars.U32) = refl
numbered-back (marks.Scalar scalars.U64) = refl
numbered-back (marks.Scalar scalars.I8) = refl
numbered-back (marks.Scalar scalars.I16) = refl
numbered-back (marks.Scalar scalars.I32) = refl
numbered-back (marks.Scalar scalars.I64) = refl
numbered-back (marks.Scalar scalars.F32) = refl
numbered-back marks.Text = refl
numbered-back marks.Seq = refl
numbered-back marks.Map = refl
numbered-back marks.Enum = refl
numbered-back marks.Unit = refl
numbered-back (marks.Tuple n) =
    let e : 16 + n - 16 ≡ n = omega arith in
    cond-false (eqb (16 + n) 0) _ _ (ne_eqb (16 + n) 0 (λ q. absurd (omega arith)))
    ∙ cond-false (ltb (16 + n) 11) _ _ (le-ltb (16 + n) 11 (omega arith))
    ∙ cond-false (eqb (16 + n) 11) _ _ (ne_eqb (16 + n) 11 (λ q. absurd (omega arith)))
    ∙ cond-false (eqb (16 + n) 12) _ _ (ne_eqb (16 + n) 12 (λ q. absurd (omega arith)))
    ∙ cond-false (eqb (16 + n) 13) _ _ (ne_eqb (16 + n) 13 (λ q. absurd (omega arith)))
    ∙ cond-false (eqb (16 + n) 14) _ _ (ne_eqb (16 + n) 14 (λ q. absurd (omega arith)))
    ∙ cond-false (eqb (16 + n) 15) _ _ (ne_eqb (16 + n) 15 (λ q. absurd (omega arith)))
    ∙ ap marks.Tuple e

-- Marks with one number are one.
pub mark-one : (m n : Mark) → mark_number m ≡ mark_number n → m ≡ n
mark-one m n e = sym (numbered-back m) ∙ ap numbered e ∙ numbered-back n

-- A test that is true exactly where two marks are one is the test of their numbers.
pub marks-told : (m n : Mark) (b : Bool) → (b ≡ true → m ≡ n) → (b ≡ false → m ≡ n → ⊥) → b ≡ eqb (mark_number m) (mark_number n)
marks-told m n true same apart = sym (eq-eqb _ _ (ap mark_number (same refl)))
marks-told m n false same apart = sym (ne_eqb _ _ (λ e. apart refl (mark-one m n e)))
