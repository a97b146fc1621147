-- A state that is sent and received.
use Rattle.std.specs.Prelude.{ℕ, ◌≤◌, MatchResult, Result, vec_len}
use Rattle.column.specs.Meaning.{Meaning}
use Rattle.document.specs.WriteOut.{write_out}
use Rattle.replay.specs.Given.{sizes_for}
use Rattle.states.specs.declared.readback.Back.{Back}
use Rattle.states.specs.declared.readback.Failure.{Failure}
use Rattle.states.specs.declared.state.TableState.{TableState}
use Rattle.states.specs.declared.tables.Tables.{Tables}
use Rattle.states.specs.Documents.{state_calls}
use Rattle.states.specs.Sending.{SendFails}
use Rattle.states.specs.Returned.{SameState}

-- Where the reader's tables are no smaller than the writer's, the same state comes back; or there was no memory, or sending was refused, with so much scratch and room.
abbrev pub ComesBack : Meaning → ℕ → ℕ → Tables → TableState → Result Back Failure → Type 0
ComesBack col scratch room tables s r =
    vec_len tables.writer.nodes ≤ vec_len tables.reader.nodes → vec_len tables.writer.cells ≤ vec_len tables.reader.slots
    → MatchResult r (λ back. SameState back.state s) (λ failure. SendFails (sizes_for tables.writer) (write_out col (state_calls s) scratch room) (state_calls s) failure.error)
