use Rattle.std.proofs.Common.{ℕ, ◌+◌, ◌∷◌, get_or, drop, sym, ap, ◌∙◌, subst, arith}
use Rattle.std.proofs.lemmas.List.{drop_more, drop-set-lt}
use Rattle.column.specs.Widths.{Below}
use Rattle.column.specs.Steps.{differences}
use Rattle.column.proofs.Differences.{subtracted, changed-more}
use Rattle.column.proofs.steps.subtract.Goals as goal

pub loop-value-preserved : goal.loop-value-preserved
loop-value-preserved c =
    let w = c.args.width in
    let vs = c.loop-value.values in
    let i = c.loop-value.value-index in
    let last = c.loop-value.last in
    let next = drop_more vs i 0 (omega arith) in
    let both = subst (Below w) next c.loop-value.invariant.2 in
    let step = sym (subtracted w c.args.top c.requires.width c.requires.top (get_or vs i 0) last c.loop-value.invariant.1) in (
      changed-more (differences w last) (differences w (get_or vs i 0)) vs i _ _ (omega arith) (ap (differences w last) next ∙ ap (λ (n : ℕ). n ∷ differences w (get_or vs i 0) (drop (i + 1) vs)) step) c.loop-value.invariant.0,
      both.0,
      subst (Below w) (sym (drop-set-lt (i + 1) vs i _ (omega arith))) both.1,
    )
