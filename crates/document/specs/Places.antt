-- Open places: what a list of calls waits for. The root is a place that waits for one value; a document is done when no place is open.
use Rattle.std.specs.Prelude.{◌≡◌, ℕ, zero, suc, Bool, true, false, cond, List, [], ◌∷◌, ◌++◌, length, nat_lt}
use Rattle.document.specs.declared.refusals.Refusal.{Refusal}
use Rattle.document.specs.declared.refusals.Refusal.TheVariants.{Complete as IsComplete, Count, Depth}
use Rattle.document.specs.Calls.{Value, scalar, text, unit, none, some, variant, seq, map, tuple, Call, val, end}
use Rattle.document.specs.Nodes.{Path, root, ◌▹◌, elem, key, value, field, alt}
use Rattle.document.specs.Entries.{Entry, leaves}

-- a place waits for values: of a seq, a map (keys and values in turn), a tuple, a `tuple 1`, or one value that follows
pub data Place : Type 0 where
  items keys : Path → ℕ → Place  -- so many elements, or pairs, are to come
  vals : Path → ℕ → Place  -- a map value is next, and then so many pairs
  fields : Path → ℕ → ℕ → Place  -- the next field, and how many are to come
  lone : Path → ℕ → Place  -- the value of a `tuple 1` stands at the tuple's own node
  only : Path → Place  -- one value is to come, and closes the place
  closing : Place  -- .. and is on its way

-- where the next value in a place stands, and the place once that is counted
pub data Next : Type 0 where
  nowhere : Next
  there : Path → Place → Next

-- where the next value stands
abbrev pub next : Place → Next
next (items p zero) = nowhere
next (items p (suc n)) = there (p ▹ elem) (items p n)
next (keys p zero) = nowhere
next (keys p (suc n)) = there (p ▹ key) (vals p n)
next (vals p n) = there (p ▹ value) (keys p n)
next (fields p i zero) = nowhere
next (fields p i (suc n)) = there (p ▹ field i) (fields p (suc i) n)
next (lone p zero) = nowhere
next (lone p (suc n)) = there p (lone p n)
next (only p) = there p closing
next closing = nowhere

-- whether `end` may close the place
abbrev pub full : Place → Bool
full (items p zero) = true
full (items p (suc n)) = false
full (keys p zero) = true
full (keys p (suc n)) = false
full (vals p n) = false
full (fields p i zero) = true
full (fields p i (suc n)) = false
full (lone p zero) = true
full (lone p (suc n)) = false
full (only p) = false
full closing = false

-- the place that a value at p opens, if any
abbrev pub opens : Path → Value → List Place
opens p (scalar k b) = []
opens p (text bs) = []
opens p unit = []
opens p none = []
opens p some = only (p ▹ alt 1) ∷ []
opens p (variant i) = only (p ▹ alt i) ∷ []
opens p (seq n) = items p n ∷ []
opens p (map n) = keys p n ∷ []
opens p (tuple zero) = fields p 0 0 ∷ []
opens p (tuple (suc zero)) = lone p 1 ∷ []
opens p (tuple (suc (suc n))) = fields p 0 (suc (suc n)) ∷ []

-- places close with their one value
abbrev pub settle : List Place → List Place
settle [] = []
settle (items p n ∷ fs) = items p n ∷ fs
settle (keys p n ∷ fs) = keys p n ∷ fs
settle (vals p n ∷ fs) = vals p n ∷ fs
settle (fields p i n ∷ fs) = fields p i n ∷ fs
settle (lone p n ∷ fs) = lone p n ∷ fs
settle (only p ∷ fs) = only p ∷ fs
settle (closing ∷ fs) = settle fs

-- at most 32 places are open beside the root's own
abbrev pub too_many : ℕ → Bool
too_many n = nat_lt 33 n

-- what a call does to the places: its entries and the places after it, or a refusal
pub data Turn : Type 0 where
  stays : Refusal → Turn
  goes : List Entry → List Place → Turn

-- a value that stands where the innermost place has it next
abbrev pub tell : Value → List Place → Next → Turn
tell v fs nowhere = stays Count
tell v fs (there p f) = cond (too_many (length (opens p v ++ f ∷ fs))) (stays Depth) (goes (leaves p v) (settle (opens p v ++ f ∷ fs)))

-- a call with these places open, the innermost first
abbrev pub turn : List Place → Call → Turn
turn [] c = stays IsComplete
turn (f ∷ fs) (val v) = tell v fs (next f)
turn (f ∷ fs) end = cond (full f) (goes [] (settle fs)) (stays Count)

-- before the first call
abbrev pub start : List Place
start = only root ∷ []

-- what holds after a turn that was taken
abbrev pub Onward : Turn → (List Place → Type 0) → Type 0
Onward (stays r) P = ⊥
Onward (goes es gs) P = P gs

-- the calls are exactly what the places wait for
abbrev pub Complete : List Place → List Call → Type 0
Complete fs [] = fs ≡ []
Complete fs (c ∷ cs) = Onward (turn fs c) (λ gs. Complete gs cs)

-- every call is taken
abbrev pub Runs : List Place → List Call → Type 0
Runs fs [] = Unit {0}
Runs fs (c ∷ cs) = Onward (turn fs c) (λ gs. Runs gs cs)
