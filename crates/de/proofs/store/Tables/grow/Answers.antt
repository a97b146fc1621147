use Rattle.std.proofs.Common.{◌<◌, length, sym, ap, ◌∙◌, add-one, arith}
use Rattle.de.specs.Moves.{sheets, node, spawned, grown}
use Rattle.de.proofs.Growing.{spawned-last, length-spawned}
use Rattle.de.proofs.store.Tables.grow.Goals as goal

-- one child more
pub loop-i-preserved : goal.loop-i-preserved
loop-i-preserved c =
    let r = c.args.r in
    let i = c.loop-i.i in
    let n = c.args.count in
    let T = sheets c.loop-i.self in
    let e = c.spawn.ensures.tables in
    let used = ap (λ U. U.used) e in
    let within : r < length T.nodes = omega arith in
    let last = ap (λ U. (node U r).children.last) e ∙ spawned-last r i n T within in (
      e ∙ ap (spawned r i n) c.loop-i.invariant.0 ∙ ap (λ k. grown r k n (sheets c.args.self.now)) (sym (add-one i)),
      omega arith,
      omega arith,
      ap (λ U. length U.nodes) e ∙ length-spawned r i n T ∙ c.loop-i.invariant.3,
    )
