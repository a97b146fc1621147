use Rattle.std.proofs.Common.{◌*◌, ◌^◌, ◌%◌, bit_and, bit_or, ◌∙◌, rules, mod-eq_of_lt}
use Rattle.std.proofs.lemmas.Iterator.Consumers.{fold_from_yields_List}
use Rattle.std.proofs.lemmas.Iterator.Adapters.{YieldsList-from_rev_slice}
use Rattle.column.proofs.Numbers.{total-folded}
use Rattle.column.proofs.short.number_of.Goals as goal

pub returns : goal.returns
returns c =
    let bs = c.args.form.now in
    fold_from_yields_List _ (λ n b. bit_or (n * 2 ^ 7 % 2 ^ 64) (bit_and b 127)) 0 c.fold.result c.fold.ensures.ran (YieldsList-from_rev_slice bs cc) (λ a x b q k. search rules)
    ∙ total-folded bs ∙ mod-eq_of_lt c.requires
