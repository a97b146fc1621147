use Rattle.std.proofs.Common.{◌≡◌, [], length}
use Rattle.replay.specs.Given.{calls_of, kept, sizes_for}
use Rattle.bench.specs.Writing.{Wrote}
use Rattle.bench.proofs.writing.write_often.Given as goal

-- what was written last is what is written first
abbrev pub invariant-loop : goal.invariant-loop
invariant-loop g l =
    Wrote (g.C.Column.meaning l.fn.kind) (kept (sizes_for l.fn.tables) [] (calls_of l.fn.steps)) (length l.fn.scratch) (length l.fn.output) l.output l.written.answer
    × (calls_of l.steps ≡ calls_of l.fn.steps)
    × (sizes_for l.written.tables ≡ sizes_for l.fn.tables)
    × (length l.scratch ≡ length l.fn.scratch)
    × (length l.output ≡ length l.fn.output)
