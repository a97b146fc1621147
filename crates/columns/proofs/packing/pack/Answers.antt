use Rattle.std.proofs.Common.{length, drop, vec_items}
use Rattle.columns.proofs.ReadBack.{packed}
use Rattle.columns.proofs.packing.pack.Goals as goal

pub returns-clause-bytes : goal.returns-clause-bytes
returns-clause-bytes g c =
    let wrote = c.in_ok-used.ensures in
    let output = c.in_ok-output.output in
    packed (g.C.Column.meaning c.args.kind.now) c.args.width c.args.values.now (vec_items c.in_ok-list.list) c.deref_mut.result.now
    c.deref_mut-2.result.now c.write.new.output (drop (length c.write.new.output) output.items) (vec_items c.truncate.new.self)
    output.len c.in_ok-used.used c.deref_mut.ensures.value c.in_ok-list.ensures.items
    c.write.auto.output c.deref_mut-2.ensures.len wrote.answer wrote.bytes c.truncate.ensures.items
