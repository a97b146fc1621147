-- A document that is written once more.
use Rattle.std.proofs.Common.{◌≡◌, ℕ, List, [], ◌∷◌, length, Result, refl, ap, subst}
use Rattle.column.specs.Meaning.{Meaning}
use Rattle.document.specs.declared.refusals.Refusal.{Refusal}
use Rattle.document.specs.Calls.{Call}
use Rattle.document.specs.Said.{said}
use Rattle.document.specs.Verdict.{Sizes}
use Rattle.ser.specs.Standing.{WrittenOut}
use Rattle.replay.specs.declared.steps.Step.{Step}
use Rattle.replay.specs.Given.{calls_of, given, kept, marked}
use Rattle.replay.proofs.Trips.{written_ok}
use Rattle.bench.specs.Writing.{Wrote}

-- marking the steps leaves their calls
pub same-calls : (sizes : Sizes) (done : List Call) (ss : List Step) → calls_of (marked sizes done ss) ≡ calls_of ss
same-calls sizes done [] = refl
same-calls sizes done (s ∷ ss) = ap (λ cs. said s.call ∷ cs) (same-calls sizes (given sizes done (said s.call)) ss)

-- what write-out answers and leaves
pub wrote : (col : Meaning) (cs : List Call) (scratch scratch' output output' : List ℕ) (r : Result ℕ Refusal) → WrittenOut col cs scratch scratch' output output' r → Wrote col cs (length scratch) (length output) output' r
wrote col cs scratch scratch' output output' r w = record { answer = w.answer; written = λ n ok. (written_ok col cs scratch scratch' output output' r n w ok).2 }

-- .. with the same tables, calls and buffers
pub wrote-as : (col : Meaning) (one two : Sizes) (cs ds : List Call) (m m' n n' : ℕ) (output' : List ℕ) (r : Result ℕ Refusal) → one ≡ two → cs ≡ ds → m ≡ m' → n ≡ n'
    → Wrote col (kept one [] cs) m n output' r → Wrote col (kept two [] ds) m' n' output' r
wrote-as col one two cs ds m m' n n' output' r e f g h w =
    subst (λ j. Wrote col (kept two [] ds) m' j output' r) h
    (subst (λ j. Wrote col (kept two [] ds) j n output' r) g (subst (λ xs. Wrote col (kept two [] xs) m n output' r) f (subst (λ s. Wrote col (kept s [] cs) m n output' r) e w)))
