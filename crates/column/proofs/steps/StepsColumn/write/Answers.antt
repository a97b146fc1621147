use Rattle.std.proofs.Common.{◌&&◌}
use Rattle.std.proofs.lemmas.Bool.{and_parts}
use Rattle.column.specs.Widths.{listed, below}
use Rattle.column.specs.Steps.{differences, sums}
use Rattle.column.proofs.Choice.{chose}
use Rattle.column.proofs.Widths.{below-decides}
use Rattle.column.specs.Laws.Steps.{steps-undone}
use Rattle.column.proofs.Layers.{layer-written}
use Rattle.column.proofs.steps.StepsColumn.write.Goals as goal

pub subtract-requires-clause-below : goal.subtract-requires-clause-below
subtract-requires-clause-below g c =
    let w = c.args.width in
    let vs = c.args.values.now in
    let ok = (chose (listed w && below w vs) _ _ _ c.in_ok-top.ensures).0 in
    (below-decides w vs).0 (and_parts (listed w) (below w vs) ok).1

pub returns-clause-answer : goal.returns-clause-answer
returns-clause-answer g c =
    let w = c.args.width in
    let vs = c.args.values.now in
    let kind = g.C.Column.meaning c.args.self.now.lower in
    let ok = (chose (listed w && below w vs) _ _ _ c.in_ok-top.ensures).0 in
    (layer-written (λ w. differences w 0) (λ w. sums w 0) steps-undone kind c.args.layer w vs c.args.output.now c.write.new.output c.args.place c.write.result c.saturating_add.result c.subtract.new.values ok c.saturating_add.ensures c.subtract.ensures c.write.ensures.answer c.write.ensures.bytes).0
