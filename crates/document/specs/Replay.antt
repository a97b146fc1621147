-- A whole reading: each question in turn, and finish.
use Rattle.std.specs.Prelude.{ℕ, List, [], ◌∷◌, length, take, drop}
use Rattle.column.specs.Meaning.{Meaning}
use Rattle.document.specs.declared.refusals.Refusal.{Refusal}
use Rattle.document.specs.declared.refusals.Refusal.TheVariants as refusals
use Rattle.document.specs.declared.questions.Question.{Question}
use Rattle.document.specs.Calls.{scalar, text, unit, none, some, variant, seq, map, tuple, Call, val, end}
use Rattle.document.specs.Places.{Place}
use Rattle.document.specs.Reader.{Reading, Reply, reply, refuse, answer}

-- the calls that the answers make, and the bytes that are left when the root value is complete; or a refusal
pub data Replay : Type 0 where
  heard : List Call → List ℕ → Replay
  stopped : Refusal → Replay

-- what is heard of an answer: a text by its bytes as they stand in the input
abbrev pub hearing : List ℕ → Call → ℕ → Call
hearing input (val (scalar k b)) place = val (scalar k b)
hearing input (val (text bs)) place = val (text (take (length bs) (drop place input)))
hearing input (val unit) place = val unit
hearing input (val none) place = val none
hearing input (val some) place = val some
hearing input (val (variant i)) place = val (variant i)
hearing input (val (seq n)) place = val (seq n)
hearing input (val (map n)) place = val (map n)
hearing input (val (tuple n)) place = val (tuple n)
hearing input end place = end

-- no question is left
abbrev pub ending : List Place → List ℕ → Replay
ending [] bs = heard [] bs
ending (f ∷ fs) bs = stopped refusals.Early

-- one call more
abbrev pub also : Call → Replay → Replay
also c (heard cs bs) = heard (c ∷ cs) bs
also c (stopped r) = stopped r

-- what is heard of an answer, and of those after it
abbrev pub going : List ℕ → Reply → (Reading → Replay) → Replay
going input (reply c place r) more = also (hearing input c place) (more r)
going input (refuse r) more = stopped r

-- the questions in turn, over this input
abbrev pub replay : Meaning → List ℕ → Reading → List Question → Replay
replay col input r [] = ending r.places r.store.input
replay col input r (q ∷ qs) = going input (answer col r.store r.places q) (λ s. replay col input s qs)

-- finish: no byte may be left
abbrev pub finish : Replay → Replay
finish (heard cs []) = heard cs []
finish (heard cs (b ∷ bs)) = stopped refusals.Left
finish (stopped r) = stopped r
