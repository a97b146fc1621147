use Rattle.std.proofs.Common.{ℕ, ◌+◌, get_or, refl, sym, ap, ◌∙◌, subst, List, arith}
use Rattle.std.proofs.lemmas.List.{get_or-replicate}
use Rattle.de.proofs.Children.{demanded, demanded-most, Counted, counted_more, counted_past}
use Rattle.de.proofs.histogram.histogram.Goals as goal
use Rattle.de.proofs.histogram.histogram.Goals.{then-index-lt256, else-index-lt256}

-- nothing is counted
pub loop-index-init : goal.loop-index-init
loop-index-init c = (refl, λ i h. ap (λ n. n + demanded i c.args.indices.now) (get_or-replicate 256 i 0 0 h) ∙ omega arith)

-- no count passes the number of indices
pub overflow_add-counts : goal.overflow_add-counts
overflow_add-counts c =
    let xs = c.args.indices.now in
    let x = get_or xs c.loop-index.index-index 0 in
    omega (arith, c.loop-index.invariant.1 x c.if-index-lt256.true, demanded-most x xs, c.well_formed)

-- one index more
pub loop-index-preserved : goal.loop-index-preserved
loop-index-preserved c =
    let xs = c.args.indices.now in
    let k = c.loop-index.index-index in
    elim c.if-index-lt256.branch [
      | then-index-lt256 w ↦
          subst (λ (ns : List ℕ). Counted ns xs (k + 1)) (sym w.counts-is) (counted_more c.loop-index.counts xs k c.loop-index-test.true w.if-index-lt256.true c.loop-index.invariant)
      | else-index-lt256 w ↦
          subst (λ (ns : List ℕ). Counted ns xs (k + 1)) (sym w.counts-is) (counted_past c.loop-index.counts xs k c.loop-index-test.true w.if-index-lt256.false c.loop-index.invariant)
    ]
