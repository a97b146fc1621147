-- A state that was told, and then written out.
use Rattle.std.proofs.Common.{ℕ, List, Ok, Err, Result, MatchResult, inr, ◌≡◌, subst}
use Rattle.document.specs.declared.refusals.Refusal.{Refusal}
use Rattle.column.specs.Meaning.{Meaning}
use Rattle.document.specs.Calls.{Call}
use Rattle.document.specs.Verdict.{Sizes}
use Rattle.states.specs.declared.message.MessageError.{MessageError}
use Rattle.states.specs.declared.message.MessageError.TheVariants.{Memory, Refused}
use Rattle.states.specs.Sending.{Conveys, Fails, SendFails}

-- where all calls were taken, over tables that keep their lengths, sending fails as writing out does
pub written-or-not : {X : Type 0} (told sizes : Sizes) → told ≡ sizes → (col : Meaning) (w : Result ℕ Refusal) (cs : List Call) (items : X → List ℕ) (r : Result X MessageError)
    → MatchResult r (λ x. Conveys told col cs (items x)) (Fails w) → MatchResult r (λ x. Conveys sizes col cs (items x)) (SendFails sizes w cs)
written-or-not told sizes same col w cs items (Ok x) h = subst (λ z. Conveys z col cs (items x)) same h
written-or-not told sizes same col w cs items (Err Memory) h = tt
written-or-not told sizes same col w cs items (Err (Refused e)) h = inr h
