use Rattle.std.proofs.Common.{◌≡◌, ◌+◌, length, set, ap, ◌∙◌, ap₂, arith, length-set}
use Rattle.std.proofs.lemmas.List.{get_or_read_under}
use Rattle.chain.specs.declared.Chain.{Chain}
use Rattle.chain.specs.Chains.{adjust, appended, longer}
use Rattle.document.specs.Tables.{length_cells}
use Rattle.nodes.proofs.Refill.{refill}
use Rattle.ser.specs.declared.records.Cell.{Cell}
use Rattle.ser.specs.Moves.{sheets, blank_node, cell_with_next, with_cells, with_sum}
use Rattle.ser.proofs.Found.{some-cells}
use Rattle.ser.proofs.Adding.{set-read, record-added}
use Rattle.ser.proofs.store.Tables.add_cell.Goals as goal

-- the new cell is the last of r's chain, and the sum of r grows
pub returns : goal.returns
returns c =
    let t = c.args.self.now in
    let T = sheets t in
    let ns = t.nodes.items in
    let r = c.args.r in
    let old = c.index.result.now.cells in
    let place = t.taken in
    let more = length_cells c.args.load.extent in
    let cell : Cell = record { value = c.args.load.value; start = t.filled; next = 0 } in
    let grown = with_sum c.args.load.extent in
    let sum = c.index_mut.result.now in
    let read = get_or_read_under ns r t.nodes.len c.index.result.now blank_node c.index.ensures c.requires.within.0 t.nodes.ok.0 in
    let last = ap (λ n. n.cells.last) read in
    let some = some-cells c.args.load.extent in
    let size = ap length c.deref_mut.ensures.value in
    let added = record-added cell_with_next c.deref_mut.result.now c.append.new.table old place cell c.append.result c.requires.within.1 (omega (arith, t.cells.ok.0)) (omega (arith, t.cells.ok.0, c.requires.last)) c.append.ensures.answer c.append.ensures.table in
    let long : c.unwrap-longer.result ≡ longer old place = cc (added.0, c.unwrap-longer.ensures) in
    let cells = refill (λ xs. appended cell_with_next xs old.last place cell) t.cells c.append.new.table _ c.append.auto.table c.deref_mut.ensures.value added.1 in
    let summed = set-read grown ns r sum c.index_mut.ensures.value (omega (arith, t.nodes.ok.0, c.requires.within.0)) in
    let linked = set-read (with_cells c.unwrap-longer.result) (set ns r (grown sum)) r c.index_mut-2.result.now c.index_mut-2.ensures.value (omega (arith, t.nodes.ok.0, c.requires.within.0, length-set ns r (grown sum))) in
    rw c.cells.ensures
    (ap₂ (λ xs ys. record T { nodes = xs; cells = ys; taken = T.taken + more }) (linked ∙ ap₂ (λ chain xs. adjust (with_cells chain) r xs) long summed) cells
    ∙ ap (λ (chain : Chain). record T { nodes = adjust (with_cells (longer chain place)) r (adjust grown r ns); cells = appended cell_with_next t.cells.items chain.last place cell; taken = T.taken + more }) (ap (λ n. n.cells) read))
