use Rattle.std.proofs.Common.{ℕ, ◌+◌, ◌∷◌, get_or, drop, sym, ap, ◌∙◌, arith}
use Rattle.std.proofs.lemmas.List.{drop_more}
use Rattle.column.specs.Steps.{sums}
use Rattle.column.proofs.Differences.{added, changed-more}
use Rattle.column.proofs.steps.add_up.Goals as goal

pub loop-value-preserved : goal.loop-value-preserved
loop-value-preserved c =
    let w = c.args.width in
    let vs = c.loop-value.values in
    let i = c.loop-value.value-index in
    let last = c.loop-value.last in
    let sum = sym (added w c.args.top c.requires.width c.requires.top (last + get_or vs i 0)) in
    changed-more (sums w last) (sums w _) vs i _ _ (omega arith) (ap (sums w last) (drop_more vs i 0 (omega arith)) ∙ ap (λ (n : ℕ). n ∷ sums w n (drop (i + 1) vs)) sum) c.loop-value.invariant
