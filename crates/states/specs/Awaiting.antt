-- The calls that a reader is to hear, and what is read of them.
use Rattle.std.specs.Prelude.{◌≡◌, ℕ, Bool, true, false, List, [], ◌∷◌, ◌++◌, length, MatchResult, Ok, Result}
use Rattle.std.specs.List.{flat_map}
use Rattle.column.specs.Meaning.{Meaning}
use Rattle.document.specs.Calls.{Call, val, end, text, none, some, tuple}
use Rattle.document.specs.Said.{asked}
use Rattle.document.specs.Reader.{Reading, Reply, reply, refuse, answer}
use Rattle.document.specs.Replay.{hearing}
use Rattle.de.specs.declared.reader.Reader.{Reader}
use Rattle.de.specs.Standing.{finishing}
use Rattle.de.specs.Readers.{StandsFor, KeepsLengths}
use Rattle.states.specs.declared.asking.Items.{Items}
use Rattle.states.specs.declared.message.MessageError.{MessageError}
use Rattle.states.specs.declared.message.MessageError.TheVariants.{Memory}
use Rattle.states.specs.Asking.{announces}

-- an answer is heard as this call, and more holds of the reading after it
abbrev pub HeardAs : List ℕ → Call → (Reading → Type 0) → Reply → Type 0
HeardAs input c More (reply d place R) = (hearing input d place ≡ c) × More R
HeardAs input c More (refuse e) = ⊥

-- asked for each of these calls in turn, the definitions' reader hears them, and then finish is accepted
abbrev pub Hears : Meaning → List ℕ → Reading → List Call → Type 0
Hears col input R [] = finishing R ≡ Ok tt
Hears col input R (c ∷ cs) = HeardAs input c (λ S. Hears col input S cs) (answer col R.store R.places (asked false c))

-- the reader over this input stands for a reading of which these calls are heard, to the end of the document
pub record Awaits {C : Type 0} (meaning : C → Meaning) (input : List ℕ) (r : Reader C) (cs : List Call) : Type 0 where
  pub reading : Reading
  pub stands : StandsFor r reading
  pub over : r.input.now ≡ input
  pub hears : Hears (meaning r.kind.now) input reading cs

-- The tables keep their lengths; and of whatever value a reader awaited the calls, and others after them: it is what was read, and the others are awaited, or there was no memory.
pub record Reads {C X Y : Type 0} (meaning : C → Meaning) (input : List ℕ) (old new : Reader C) (calls : X → List Call) (Same : Y → X → Type 0) (r : Result Y MessageError) : Type 0 where
  pub lengths : KeepsLengths old new
  pub reads : (x : X) (rest : List Call) → Awaits meaning input old (calls x ++ rest) → MatchResult r (λ y. Same y x × Awaits meaning input new rest) (λ e. e ≡ Memory)

-- whether a value follows
abbrev pub option_calls : Bool → List Call
option_calls true = val some ∷ []
option_calls false = val none ∷ []

-- how many items follow
abbrev pub length_calls : Items → ℕ → List Call
length_calls items n = announces items n ∷ []

-- a text
abbrev pub text_calls : List ℕ → List Call
text_calls bs = val (text bs) ∷ []

-- the beginning of a tuple
abbrev pub tuple_calls : ℕ → Unit {0} → List Call
tuple_calls n begun = val (tuple n) ∷ []

-- the end of a list, a map or a tuple
abbrev pub end_calls : Unit {0} → List Call
end_calls ended = end ∷ []

-- a list or a map of items that are told so
abbrev pub items_calls : {X : Type 0} → Items → (X → List Call) → List X → List Call
items_calls items calls xs = announces items (length xs) ∷ flat_map calls xs ++ end ∷ []
