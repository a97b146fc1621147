use Rattle.std.proofs.Common.{◌≡◌, vec_len}
use Rattle.document.specs.Reader.{begin}
use Rattle.document.specs.Replay.{replay, finish}
use Rattle.bench.specs.Hearing.{Counts}
use Rattle.bench.proofs.listening.listen_often.Given as goal

-- what was heard last is what is heard first
abbrev pub invariant-loop : goal.invariant-loop
invariant-loop g l =
    Counts 0 (finish (replay (g.C.Column.meaning l.fn.kind) l.fn.input (begin (vec_len l.fn.tables.nodes) (vec_len l.fn.tables.slots) l.fn.input) l.fn.questions)) l.listened.heard
    × (vec_len l.listened.tables.nodes ≡ vec_len l.fn.tables.nodes)
    × (vec_len l.listened.tables.slots ≡ vec_len l.fn.tables.slots)
