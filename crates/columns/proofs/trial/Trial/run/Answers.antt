use Rattle.std.proofs.Common.{◌≡◌, length, ◌∙◌}
use Rattle.columns.proofs.ReadBack.{read-image, only-memory}
use Rattle.columns.proofs.trial.Trial.run.Goals as goal

pub returns-clause-values : goal.returns-clause-values
returns-clause-values g c =
    let packed = c.in_ok-bytes.ensures in
    let back =
    read-image (g.C.Column.meaning c.args.kind.now) c.args.column.now.width (g.met.C.Column.lawful c.args.kind.now)
    c.deref.result.now c.deref-2.result.now packed.fits (c.deref-2.ensures.value ∙ packed.bytes) in
    cc (c.in_ok-values.ensures.values, c.len.ensures, c.deref.ensures.len, c.deref.ensures.value)

pub returns-in_err-values-clause-answer : goal.returns-in_err-values-clause-answer
returns-in_err-values-clause-answer g c =
    let packed = c.in_ok-bytes.ensures in
    let whole : c.len.result ≡ length c.deref.result.now = cc (c.len.ensures, c.deref.ensures.len) in
    only-memory (g.C.Column.meaning c.args.kind.now) c.args.column.now.width _ _ c.from_residual-in_err-values.result c.in_err-values.field-0.0 c.len.result
    c.deref.result.now c.deref-2.result.now (g.met.C.Column.lawful c.args.kind.now) packed.fits (c.deref-2.ensures.value ∙ packed.bytes) whole
    c.in_err-values.ensures.answer c.from_residual-in_err-values.ensures.1
