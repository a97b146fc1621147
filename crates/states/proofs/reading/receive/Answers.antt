use Rattle.std.proofs.Common.{vec_len, ap, sym, ◌∙◌}
use Rattle.document.specs.Bytes.{bytes}
use Rattle.states.specs.Documents.{state_calls}
use Rattle.states.proofs.Awaited.{document-awaited}
use Rattle.states.proofs.reading.receive.Goals as goal

pub returns-clause-state : goal.returns-clause-state
returns-clause-state g c s sizes sent p q =
    let new = c.new-reader in
    let bytes_are = sent.bytes_are ∙ ap (λ k. bytes (g.C.Column.meaning k) (state_calls s)) (sym new.ensures.kind) in
    c.read_state-state.ensures.reads s
    (document-awaited g.C.Column.meaning new.result (state_calls s) sizes (vec_len c.args.tables.nodes) (vec_len c.args.tables.slots) c.args.message.now (g.met.C.Column.lawful new.result.kind.now) sent.accepted sent.complete p q bytes_are new.ensures.stands new.ensures.input)
