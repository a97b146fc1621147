use Rattle.std.proofs.Common.{◌≡◌, true, false, nat_le, sym, ◌∙◌, rules, tests}
use Rattle.std.proofs.lemmas.Iterator.{YieldsList-from_slice}
use Rattle.std.proofs.lemmas.Iterator.Search.{all_from_yields_List}
use Rattle.column.specs.Widths.{listed, below}
use Rattle.column.proofs.Choice.{chose}
use Rattle.column.proofs.Widths.{below-all}
use Rattle.column.proofs.width.admitted.Goals as goal

pub returns-then-all : goal.returns-then-all
returns-then-all c =
    let vs = c.args.values.now in
    let top = chose (listed c.args.width) _ _ _ c.in_ok-top.ensures in
    let tested = all_from_yields_List (λ v. nat_le v c.in_ok-top.top) _ _ c.all.result c.all.ensures.ran (YieldsList-from_slice vs cc) (λ x b q k. search (rules, tests)) in
    let fits : below c.args.width vs ≡ true = sym (below-all c.args.width c.in_ok-top.top top.1 vs) ∙ sym tested ∙ c.if-all.true in
    search rules

pub returns-else-all : goal.returns-else-all
returns-else-all c =
    let vs = c.args.values.now in
    let top = chose (listed c.args.width) _ _ _ c.in_ok-top.ensures in
    let tested = all_from_yields_List (λ v. nat_le v c.in_ok-top.top) _ _ c.all.result c.all.ensures.ran (YieldsList-from_slice vs cc) (λ x b q k. search (rules, tests)) in
    let fails : below c.args.width vs ≡ false = sym (below-all c.args.width c.in_ok-top.top top.1 vs) ∙ sym tested ∙ c.if-all.false in
    search rules
