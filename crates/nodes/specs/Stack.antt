-- The open places, as a list of states.
use Rattle.std.specs.Prelude.{ℕ, zero, suc, ◌-◌, Bool, true, List, [], ◌∷◌, Option, nat_lt, slice_index_or, slice_set}
use Rattle.std.specs.declared.option.Option.TheVariants as options
use Rattle.nodes.specs.declared.places.State.{State}
use Rattle.nodes.specs.declared.places.State.TheVariants.{Root, Items, Keys, Vals, Fields, Lone, One, Closing}
use Rattle.nodes.specs.declared.places.Place.{Place}
use Rattle.nodes.specs.declared.places.Places.{Places}

-- a place by its state
abbrev pub waiting : State → Place
waiting s = record { state = s }

-- the states of the first d places, the innermost first
abbrev pub levels : List Place → ℕ → List State
levels ps zero = []
levels ps (suc d) = (slice_index_or ps d (waiting Root)).state ∷ levels ps d

-- the states of the open places, the innermost first
abbrev pub stack : Places → List State
stack p = levels p.table p.depth

-- the innermost one's state
abbrev pub top : Places → State
top p = (slice_index_or p.table (p.depth - 1) (waiting Root)).state

-- .. and the places with another one there
abbrev pub turned : Places → State → Places
turned p s = record { table = slice_set p.table (p.depth - 1) (waiting s); depth = p.depth }

-- places close with their one value
abbrev pub settled : List State → List State
settled [] = []
settled (Root ∷ ss) = Root ∷ ss
settled (Items r n ∷ ss) = Items r n ∷ ss
settled (Keys r n ∷ ss) = Keys r n ∷ ss
settled (Vals r n ∷ ss) = Vals r n ∷ ss
settled (Fields r n ∷ ss) = Fields r n ∷ ss
settled (Lone r n ∷ ss) = Lone r n ∷ ss
settled (One r ∷ ss) = One r ∷ ss
settled (Closing ∷ ss) = settled ss

-- a place more, where one is opened
abbrev pub opening : Option State → List State → List State
opening options.None ss = ss
opening (options.Some s) ss = s ∷ ss

-- whether there is room for a place more, where one is opened, beside so many open ones
abbrev pub has_room : Option State → ℕ → Bool
has_room options.None depth = true
has_room (options.Some s) depth = nat_lt depth 32

-- those below the innermost
abbrev pub rest : List State → List State
rest [] = []
rest (s ∷ ss) = ss

-- the root's place gives way to the one that its value opens
abbrev pub replaced : Option State → State
replaced options.None = Closing
replaced (options.Some s) = s
