-- The document that a state is: its calls.
use Rattle.std.specs.Prelude.{ℕ, List, [], ◌∷◌, ◌++◌, length, Option, Some, None}
use Rattle.std.specs.List.{flat_map}
use Rattle.document.specs.declared.scalars.Scalar.TheVariants.{U8}
use Rattle.document.specs.Calls.{Call, val, end, scalar, text, none, some, seq, map, tuple}
use Rattle.states.specs.declared.state.Grant.{Grant}
use Rattle.states.specs.declared.state.Seat.{Seat}
use Rattle.states.specs.declared.state.TableState.{TableState}

-- a number of eight bits
abbrev pub number_calls : ℕ → List Call
number_calls n = val (scalar U8 n) ∷ []

-- the seat whose hand a card opens, if any
abbrev pub target_calls : Option ℕ → List Call
target_calls (Some seat) = val some ∷ number_calls seat
target_calls None = val none ∷ []

-- what a card grants
abbrev pub grant_calls : Grant → List Call
grant_calls g = number_calls g.card ++ target_calls g.seat

-- a hand: its cards
abbrev pub cards_calls : List ℕ → List Call
cards_calls cards = val (seq (length cards)) ∷ flat_map number_calls cards ++ end ∷ []

-- what all cards grant
abbrev pub grants_calls : List Grant → List Call
grants_calls grants = val (map (length grants)) ∷ flat_map grant_calls grants ++ end ∷ []

-- a seat, up to what its cards grant
abbrev pub hand_calls : Seat → List Call
hand_calls s = val (tuple 3) ∷ val (text s.name.now) ∷ cards_calls s.cards.now

-- a seat
abbrev pub seat_calls : Seat → List Call
seat_calls s = hand_calls s ++ grants_calls s.grants.now ++ end ∷ []

-- all seats
abbrev pub state_calls : TableState → List Call
state_calls s = val (seq (length s.seats.now)) ∷ flat_map seat_calls s.seats.now ++ end ∷ []
