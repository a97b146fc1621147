use Rattle.std.proofs.Common.{◌^◌, ◌<◌, ◌&&◌}
use Rattle.std.proofs.lemmas.Bool.{and_parts}
use Rattle.std.proofs.ByRecursion.{All-get_or}
use Rattle.column.specs.Widths.{listed, below}
use Rattle.column.proofs.Choice.{chose}
use Rattle.column.proofs.Widths.{below-decides}
use Rattle.column.proofs.OneByOne.{putting-more}
use Rattle.column.proofs.coded.AnyColumn.write.Goals as goal

pub put-size-requires : goal.put-size-requires
put-size-requires g c =
    let w = c.args.width in
    let vs = c.args.values.now in
    let ok = and_parts (listed w) (below w vs) (chose (listed w && below w vs) _ _ _ c.in_ok-admitted.ensures).0 in
    (ok.0, All-get_or (λ v. v < 2 ^ w) vs c.loop-value.value-index 0 c.loop-value-test.true ((below-decides w vs).0 ok.1))

pub loop-value-preserved : goal.loop-value-preserved
loop-value-preserved g c =
    putting-more (g.F.Code.code c.args.self.now c.args.width) c.args.values.now c.args.place c.args.output.now c.loop-value.value-index c.loop-value.at c.loop-value.output c.put-size.new.room c.put-size.result c.in_ok-at.field-0 c.loop-value-test.true c.loop-value.invariant c.put-size.ensures.answer c.put-size.ensures.bytes c.in_ok-at.ensures.ok_part
