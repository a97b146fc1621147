-- Reading back: each accepted call's question in turn, and finish.
use Rattle.std.specs.Prelude.{◌≡◌, ℕ, suc, Bool, cond, ◌⊎◌, List, [], ◌∷◌, Ok, Err, Result}
use Rattle.column.specs.Meaning.{Meaning}
use Rattle.document.specs.declared.refusals.Refusal.{Refusal}
use Rattle.document.specs.Calls.{Call}
use Rattle.document.specs.Said.{said, asked}
use Rattle.document.specs.Reader.{Reading, Reply, reply, refuse, answer}
use Rattle.document.specs.Replay.{hearing}
use Rattle.de.specs.declared.reader.Reader.{Reader}
use Rattle.de.specs.Standing.{finishing}
use Rattle.de.specs.Readers.{StandsFor}
use Rattle.replay.specs.declared.steps.Step.{Step}
use Rattle.replay.specs.declared.trip.Mismatch.{Mismatch}
use Rattle.replay.specs.declared.trip.Mismatch.TheVariants.{Other, Refused}

-- a call that is asked for, and whether its question carries the flag
pub record Asking : Type 0 where
  pub call : Call
  pub flag : Bool

-- the accepted calls of some steps
abbrev pub askings : List Step → List Asking
askings [] = []
askings (s ∷ ss) = cond s.accepted (record { call = said s.call; flag = s.no_size } ∷ askings ss) (askings ss)

-- how finish ends it
abbrev pub ending_of : Result (Unit {0}) Refusal → Result (Unit {0}) Mismatch
ending_of (Ok u) = Ok tt
ending_of (Err e) = Err (Refused e)

-- One question: refused, that ends it; answered by the call's value, as it is heard in the input, the next ones follow; and another value ends it too.
abbrev pub Listened : List ℕ → Call → (Reading → ℕ → Type 0) → ℕ → Result (Unit {0}) Mismatch → Reply → Type 0
Listened input c More n e (refuse r) = (n ≡ 0) × (e ≡ Err (Refused r))
Listened input c More n e (reply d place R) =
    ((hearing input d place ≡ c) × ((m : ℕ) × (n ≡ suc m) × More R m)) ⊎ ((hearing input d place ≡ c → ⊥) × (n ≡ 0) × (e ≡ Err Other))

-- What comparing one answer with its call tells: a refusal; the call's value, and the reader stands for what comes after it; or another value.
abbrev pub Matched : {C : Type 0} → List ℕ → Call → Reader C → Result (Unit {0}) Mismatch → Reply → Type 0
Matched input c after e (refuse r) = e ≡ Err (Refused r)
Matched input c after e (reply d place R) =
    ((hearing input d place ≡ c) × (e ≡ Ok tt) × StandsFor after R) ⊎ ((hearing input d place ≡ c → ⊥) × (e ≡ Err Other))

-- What is heard of a reader that stands for a reading of the input, asked for each of these calls in turn: n of them, and then it ended so.
abbrev pub Listens : Meaning → List ℕ → Reading → List Asking → ℕ → Result (Unit {0}) Mismatch → Type 0
Listens col input R [] n e = (n ≡ 0) × (e ≡ ending_of (finishing R))
Listens col input R (s ∷ ss) n e = Listened input s.call (λ R' m. Listens col input R' ss m e) n e (answer col R.store R.places (asked s.flag s.call))
