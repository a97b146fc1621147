use Rattle.std.proofs.Common.{◌≡◌, ◌≤◌, slice_index, Err, ap, ◌∙◌, arith, pow_pos}
use Rattle.column.specs.Widths.{listed}
use Rattle.column.proofs.Choice.{chose}
use Rattle.column.proofs.Leb128.{front-got, form-fits, one-bad, one-got}
use Rattle.column.proofs.short.ShortCode.take.Goals as goal
use Rattle.column.proofs.short.ShortCode.take.Goals.{else-size-eq-LONGEST-via-then-size-eq-LONGEST+else-bytes-gt-TENTH, else-size-eq-LONGEST-via-else-size-eq-LONGEST}

pub number_of-value-requires : goal.number_of-value-requires
number_of-value-requires c =
    let bs = c.args.bytes.now in
    let got = front-got c.args.layer bs c.in_ok-size.size c.in_ok-size.ensures in
    let small : c.in_ok-size.size ≡ 10 → slice_index bs 9 ≤ 1 =
    elim c.else-size-eq-LONGEST.branch [
      | else-size-eq-LONGEST-via-then-size-eq-LONGEST+else-bytes-gt-TENTH w ↦ λ _. w.if-bytes-gt-TENTH.false
      | else-size-eq-LONGEST-via-else-size-eq-LONGEST w ↦ λ e. absurd (w.if-size-eq-LONGEST.false e)
    ] in
    form-fits bs c.in_ok-size.size got.1 small

pub returns-then-value-top : goal.returns-then-value-top
returns-then-value-top c =
    let bs = c.args.bytes.now in
    let got = front-got c.args.layer bs c.in_ok-size.size c.in_ok-size.ensures in
    let top = chose (listed c.args.width) _ _ _ c.in_ok-top.ensures in
    ap Err c.at-then-value-top.ensures ∙ one-bad c.args.layer c.args.width bs c.in_ok-size.size got.0 (omega (arith, top.1, c.number_of-value.ensures, c.if-value-top.true))

pub returns : goal.returns
returns c =
    let bs = c.args.bytes.now in
    let got = front-got c.args.layer bs c.in_ok-size.size c.in_ok-size.ensures in
    let top = chose (listed c.args.width) _ _ _ c.in_ok-top.ensures in
    one-got c.args.layer c.args.width bs c.in_ok-size.size c.number_of-value.result got.0 c.number_of-value.ensures (omega (arith, top.1, pow_pos c.args.width))
