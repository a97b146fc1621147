-- A document that was written out, read back.
use Rattle.std.specs.Prelude.{◌≡◌, ℕ, ◌≤◌, Bool, T, List, [], ◌∷◌, map as each, length, take, Option, Some, None, Ok, Err, Result}
use Rattle.column.specs.Meaning.{Meaning}
use Rattle.document.specs.declared.refusals.Refusal.{Refusal}
use Rattle.document.specs.Calls.{extent, Call, val, end}
use Rattle.document.specs.Verdict.{Sizes}
use Rattle.document.specs.Reader.{begin}
use Rattle.replay.specs.declared.trip.Heard.{Heard}
use Rattle.replay.specs.Listening.{Asking, Listens}

-- the calls that are asked for
abbrev pub called : List Asking → List Call
called xs = each (λ a. a.call) xs

-- a flag fits a call: flagged, its length is no more than 65,536
abbrev pub FlagFits : Bool → Call → Type 0
FlagFits flag (val v) = T flag → extent v ≤ 65536
FlagFits flag end = Unit {0}

-- each flag fits its call
abbrev pub Flagged : List Asking → Type 0
Flagged [] = Unit {0}
Flagged (a ∷ xs) = FlagFits a.flag a.call × Flagged xs

-- What is heard by a new reader, with tables of so many nodes and slots, of the document that begins this output: each asking in turn, and finish; nothing where no document was written out.
abbrev pub ReadBack : Meaning → List ℕ → ℕ → ℕ → List Asking → Result ℕ Refusal → Option Heard → Type 0
ReadBack col output nodes slots xs (Err e) h = h ≡ None
ReadBack col output nodes slots xs (Ok n) h = (x : Heard) × (h ≡ Some x) × Listens col (take n output) (begin nodes slots (take n output)) xs x.count x.ending

-- What was written out comes back: each call's question is answered with its value, none is refused, and finish is accepted,
-- where the reader's tables are no smaller than the writer's, and each flag fits its call.
abbrev pub ComesBack : Sizes → ℕ → ℕ → List Asking → Result ℕ Refusal → Option Heard → Type 0
ComesBack sizes nodes slots xs written h = (n : ℕ) → written ≡ Ok n → Flagged xs → sizes.nodes ≤ nodes → sizes.cells ≤ slots
    → h ≡ Some (record { count = length xs; ending = Ok tt })
