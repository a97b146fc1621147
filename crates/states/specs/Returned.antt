-- A state that was read is the one that was written.
use Rattle.std.specs.Prelude.{◌≡◌, ℕ, ◌≤◌, List, MatchResult, Result, vec_items}
use Rattle.std.specs.List.{AllZip}
use Rattle.column.specs.Meaning.{Meaning}
use Rattle.document.specs.Verdict.{Sizes}
use Rattle.states.specs.declared.message.MessageError.{MessageError}
use Rattle.states.specs.declared.message.MessageError.TheVariants.{Memory}
use Rattle.states.specs.declared.state.Seat.{Seat}
use Rattle.states.specs.declared.state.TableState.{TableState}
use Rattle.states.specs.declared.reading.ReadSeat.{ReadSeat}
use Rattle.states.specs.declared.reading.ReadState.{ReadState}
use Rattle.states.specs.Documents.{state_calls}
use Rattle.states.specs.Sending.{Conveys}

-- the same name, cards and grants
abbrev pub SameSeat : ReadSeat → Seat → Type 0
SameSeat r s = (r.name.now ≡ s.name.now) × (vec_items r.cards ≡ s.cards.now) × (vec_items r.grants ≡ s.grants.now)

-- the same state: the same seats, one after another
abbrev pub SameState : ReadState → TableState → Type 0
SameState r s = AllZip SameSeat (vec_items r.seats) s.seats.now

-- the same state was read, or there was no memory
abbrev pub Returned : TableState → Result ReadState MessageError → Type 0
Returned s r = MatchResult r (λ read. SameState read s) (λ e. e ≡ Memory)

-- Whatever state a message is, it is the one that was read, with tables of so many nodes and slots that are no smaller than the writer's.
abbrev pub Receives : Meaning → ℕ → ℕ → List ℕ → Result ReadState MessageError → Type 0
Receives col nodes slots message r = (s : TableState) (sizes : Sizes) → Conveys sizes col (state_calls s) message → sizes.nodes ≤ nodes → sizes.cells ≤ slots → Returned s r
