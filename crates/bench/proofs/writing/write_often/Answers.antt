use Rattle.std.proofs.Common.{[], length, ap, ◌∙◌, rules}
use Rattle.replay.specs.Given.{calls_of, kept, sizes_for}
use Rattle.bench.proofs.Rewriting.{same-calls, wrote, wrote-as}
use Rattle.bench.proofs.writing.write_often.Goals as goal

-- once
pub loop-init : goal.loop-init
loop-init g c =
    let w = c.write_steps-written in
    let sizes = sizes_for c.args.tables in (
      wrote (g.C.Column.meaning c.args.kind.now) (kept sizes [] (calls_of c.args.steps.now)) c.args.scratch.now w.new.scratch c.args.output.now w.new.output w.result.answer w.ensures.written,
      ap calls_of w.ensures.steps ∙ same-calls sizes [] c.args.steps.now,
      w.ensures.tables,
      search rules,
      search rules,
    )

-- once more
pub loop-preserved : goal.loop-preserved
loop-preserved g c =
    let col = g.C.Column.meaning c.args.kind.now in
    let w = c.write_steps-written-in-loop in
    let sizes = sizes_for c.loop.written.tables in
    let (old, calls, tables, scratch, output) = c.loop.invariant in
    let new = wrote col (kept sizes [] (calls_of c.loop.steps)) c.loop.scratch w.new.scratch c.loop.output w.new.output w.result.answer w.ensures.written in (
      wrote-as col sizes (sizes_for c.args.tables) (calls_of c.loop.steps) (calls_of c.args.steps.now) (length c.loop.scratch) (length c.args.scratch.now) (length c.loop.output) (length c.args.output.now) w.new.output w.result.answer tables calls scratch output new,
      ap calls_of w.ensures.steps ∙ same-calls sizes [] c.loop.steps ∙ calls,
      w.ensures.tables ∙ tables,
      search rules,
      search rules,
    )
