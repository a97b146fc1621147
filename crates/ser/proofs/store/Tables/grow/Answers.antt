use Rattle.std.proofs.Common.{◌<◌, length, sym, ap, ◌∙◌, add-one, arith}
use Rattle.ser.specs.Moves.{sheets, node, spawned, grown}
use Rattle.ser.proofs.Moved.{spawned-last, length-spawned}
use Rattle.ser.proofs.store.Tables.grow.Goals as goal

-- one child more
pub loop-i-preserved : goal.loop-i-preserved
loop-i-preserved c =
    let r = c.args.r in
    let i = c.loop-i.i in
    let T = sheets c.loop-i.self in
    let e = c.spawn.ensures.tables in
    let used = ap (λ U. U.used) e in
    let within : r < length T.nodes = omega arith in
    let last = ap (λ U. (node U r).children.last) e ∙ spawned-last r i T within in (
      e ∙ ap (spawned r i) c.loop-i.invariant.0 ∙ ap (λ k. grown r k (sheets c.args.self.now)) (sym (add-one i)),
      omega arith,
      omega arith,
      ap (λ U. length U.nodes) e ∙ length-spawned r i T ∙ c.loop-i.invariant.3,
    )
