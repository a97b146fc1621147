use Rattle.std.proofs.Common.{◌≡◌, leb, sym, ◌∙◌, rules}
use Rattle.std.specs.List.{count_by}
use Rattle.de.proofs.Sums.{beyond_count}
use Rattle.de.proofs.columns.count_long.Goals as goal

-- the long ones are counted
pub returns : goal.returns
returns c =
    let counted : c.count.result ≡ count_by (λ n. leb 255 n) c.args.shorts.now = search rules in
    counted ∙ sym (beyond_count c.args.shorts.now)
