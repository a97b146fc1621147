-- Traces: what a list of calls leaves at the nodes, and where it stands then.
use Rattle.std.specs.Prelude.{List, [], ◌∷◌, ◌++◌}
use Rattle.document.specs.Calls.{Call}
use Rattle.document.specs.Entries.{Entry}
use Rattle.document.specs.Places.{Place, Turn, stays, goes, turn}

-- what a turn and those after it leave
abbrev pub gathered : Turn → (List Place → List Entry) → List Entry
gathered (stays r) more = []
gathered (goes es gs) more = es ++ more gs

-- what the calls leave, from these places on
abbrev pub trace : List Place → List Call → List Entry
trace fs [] = []
trace fs (c ∷ cs) = gathered (turn fs c) (λ gs. trace gs cs)

-- the places after a turn; none after a refusal
abbrev pub went : Turn → List Place
went (stays r) = []
went (goes es gs) = gs

-- the places after a list of calls
abbrev pub places_after : List Place → List Call → List Place
places_after fs [] = fs
places_after fs (c ∷ cs) = places_after (went (turn fs c)) cs
