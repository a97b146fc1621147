use Rattle.std.proofs.Common.{◌≡◌, ◌+◌, ◌-◌, ◌^◌, min, ◌∙◌, arith, rules}
use Rattle.std.specs.List.{fold}
use Rattle.de.proofs.Sums.{saturated}
use Rattle.de.proofs.columns.sum_of.Goals as goal

-- the lengths are added one after another
pub returns : goal.returns
returns c =
    let folded : c.fold.result ≡ fold (λ s n. min (s + n) (2 ^ 64 - 1)) 0 c.args.lengths.now = search rules in
    folded ∙ saturated 0 c.args.lengths.now (omega arith) ∙ omega arith
