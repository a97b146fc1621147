use Rattle.std.proofs.Common.{◌&&◌, reverse}
use Rattle.column.specs.Widths.{listed, below}
use Rattle.column.proofs.Choice.{chose}
use Rattle.column.proofs.Layers.{layer-written}
use Rattle.backwards.specs.Laws.{reverse-undone}
use Rattle.backwards.proofs.BackwardsColumn.write.Goals as goal

pub returns-clause-answer : goal.returns-clause-answer
returns-clause-answer g c =
    let w = c.args.width in
    let vs = c.args.values.now in
    let kind = g.C.Column.meaning c.args.self.now.lower in
    let ok = (chose (listed w && below w vs) _ _ _ c.in_ok-admitted.ensures).0 in
    (layer-written (λ _. reverse) (λ _. reverse) reverse-undone kind c.args.layer w vs c.args.output.now c.write.new.output c.args.place c.write.result c.saturating_add.result c.reverse.new.self ok c.saturating_add.ensures c.reverse.ensures.after c.write.ensures.answer c.write.ensures.bytes).0
