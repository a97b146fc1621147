use Rattle.std.proofs.Common.{ap, ◌∙◌, sym, subst, arith}
use Rattle.std.specs.Str.Iter.{split_whitespace_rest}
use Rattle.columns.specs.Numbers.{Lists}
use Rattle.columns.proofs.Listed.{ListsBefore, begins-with, lists-next, lists-all}
use Rattle.columns.proofs.table.numbers.Goals as goal

-- no word is read, and the whole text is left
pub loop-word-init : goal.loop-word-init
loop-word-init c =
    let whole = ap split_whitespace_rest c.into_iter-word-iterator.ensures.into_iter_gives ∙ c.split_whitespace-word-items.ensures.rest in
    (omega (arith, c.new-values.ensures.len), rw (whole, c.new-values.ensures.items) (λ vs lists. lists))

-- one word more is a number
pub loop-word-preserved : goal.loop-word-preserved
loop-word-preserved c =
    let begins = begins-with _ _ _ c.in-Some.ensures.steps in
    let longer = lists-next _ _ _ c.loop-word.invariant.1 _ _ begins _ c.in_ok-parse.ensures.value.0.1 in
    (grind arith, subst (ListsBefore _ _) (sym c.in_ok-push.ensures.items) longer)

-- no word is left
pub returns : goal.returns
returns c = (c.loop-word.invariant.0, lists-all _ _ _ c.loop-word.invariant.1 c.in-None.ensures.steps.1)
