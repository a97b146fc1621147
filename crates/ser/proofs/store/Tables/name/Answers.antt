use Rattle.std.proofs.Common.{◌+◌, set, ap, ◌∙◌, arith, length-set}
use Rattle.chain.specs.Chains.{adjust}
use Rattle.ser.specs.Moves.{sheets, with_mark, with_order}
use Rattle.ser.proofs.Adding.{set-read}
use Rattle.ser.proofs.store.Tables.name.Goals as goal

-- the mark is written, and then the order
pub returns : goal.returns
returns c =
    let t = c.args.self.now in
    let ns = t.nodes.items in
    let r = c.args.r in
    let m = with_mark c.args.mark in
    let o = with_order r in
    let old = c.index_mut.result.now in
    let a = set-read m ns r old c.index_mut.ensures.value (omega (arith, t.nodes.ok.0)) in
    let b = set-read o (set ns r (m old)) (t.marked + 1) c.index_mut-2.result.now c.index_mut-2.ensures.value (omega (arith, t.nodes.ok.0, length-set ns r (m old))) in
    ap (λ xs. record (sheets t) { nodes = xs; marked = t.marked + 1 }) (b ∙ ap (adjust o (t.marked + 1)) a)
