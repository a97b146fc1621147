-- The grammar of documents: which lists of calls are exactly one value.
use Rattle.std.specs.Prelude.{◌≡◌, ℕ, suc, ◌+◌, List, [], ◌∷◌, ◌++◌}
use Rattle.document.specs.Calls.{Value, scalar, text, unit, none, some, variant, seq, map, tuple, Call, val, end}

-- what a value's call is followed by before the value is whole: nothing, one value, or so many values and `end`
pub data Following : Type 0 where
  nothing one : Following
  enclosed : ℕ → Following

-- what follows each call
abbrev pub follows : Value → Following
follows (scalar k b) = nothing
follows (text bs) = nothing
follows unit = nothing
follows none = nothing
follows some = one
follows (variant i) = one
follows (seq n) = enclosed n
follows (map n) = enclosed (n + n)
follows (tuple n) = enclosed n

-- exactly n values, one after another, none of which has more than d places open at once
pub data Values : ℕ → ℕ → List Call → Type 0 where
  no_more : (d : ℕ) → Values d 0 []
  plain : (d n : ℕ) (v : Value) (later : List Call) → follows v ≡ nothing → Values d n later → Values d (suc n) (val v ∷ later)
  leads : (d n : ℕ) (v : Value) (inner later : List Call) → follows v ≡ one → Values d 1 inner → Values (suc d) n later → Values (suc d) (suc n) (val v ∷ (inner ++ later))
  encloses : (d n k : ℕ) (v : Value) (inner later : List Call) → follows v ≡ enclosed k → Values d k inner → Values (suc d) n later → Values (suc d) (suc n) (val v ∷ (inner ++ (end ∷ later)))

-- a document is one value, with at most 32 places open at once
abbrev pub Document : List Call → Type 0
Document cs = Values 32 1 cs
