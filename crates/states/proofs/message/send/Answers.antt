use Rattle.std.proofs.Common.{inl}
use Rattle.replay.specs.Given.{sizes_for}
use Rattle.replay.proofs.Giving.{back-sizes}
use Rattle.states.specs.Documents.{state_calls}
use Rattle.states.proofs.Sent.{written-or-not}
use Rattle.states.proofs.Sizes.{told-sizes}
use Rattle.states.proofs.message.send.Goals.{in-Ok, in-Err}
use Rattle.states.proofs.message.send.Goals as goal

pub returns-clause-message : goal.returns-clause-message
returns-clause-message g c =
    elim c.match-answer.branch [
      | in-Ok w ↦
          let all = rw w.in-Ok.is at c.told-closed.ensures in
          rw w.bytes-is (written-or-not _ (sizes_for c.args.tables) all.1 _ _ (state_calls c.args.state) (λ m. m.items) w.message-bytes.result (w.message-bytes.ensures (state_calls c.args.state) all.0))
      | in-Err w ↦ let stopped = rw w.in-Err.is at c.told-closed.ensures in rw w.bytes-is (inl (c.told-closed.result.0.desk, stopped))
    ]

pub returns-clause-tables : goal.returns-clause-tables
returns-clause-tables g c =
    back-sizes (sizes_for c.args.tables) c.told-closed.result.0.desk c.into_tables.result c.into_tables.ensures.nodes c.into_tables.ensures.cells c.into_tables.ensures.text
    (told-sizes (sizes_for c.args.tables) c.told-closed.result.0.desk (state_calls c.args.state) c.told-closed.result.1 c.told-closed.ensures)
