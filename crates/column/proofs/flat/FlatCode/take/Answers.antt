use Rattle.std.proofs.Common.{ℕ, Ok, sym, ap, ◌∙◌}
use Rattle.column.proofs.LowFirst.{one-got}
use Rattle.column.proofs.flat.FlatCode.take.Goals as goal

pub returns : goal.returns
returns c =
    ap (λ (n : ℕ). Ok (record { value = c.in-Some.value; size = n })) c.size_of-size.ensures
    ∙ one-got c.args.layer c.args.width c.args.bytes.now c.in-Some.value c.requires (sym c.first_number.ensures ∙ c.in-Some.is) c.else-width-eq1.either
