use Rattle.std.proofs.Common.{List, ℕ, length, ap, ◌∙◌, arith, length-drop}
use Rattle.column.specs.Widths.{listed}
use Rattle.column.specs.Coded.{taken}
use Rattle.column.proofs.Choice.{chose, passed_on}
use Rattle.column.proofs.OneByOne.{rest-whole, taken-got, taken-within, reading-more, reading-all, reading-none}
use Rattle.column.proofs.coded.AnyColumn.read.Goals as goal

pub returns-in_err-next-clause-answer : goal.returns-in_err-next-clause-answer
returns-in_err-next-clause-answer g c =
    let ok = (chose (listed c.args.width) _ _ _ c.in_ok-greatest.ensures).0 in
    let e = passed_on c.from_residual-in_err-next.result _ c.from_residual-in_err-next.ensures.1 in
    let one = g.F.Code.one c.args.self.now in
    let took = c.in_err-next.ensures ∙ ap (λ (bs : List ℕ). taken c.args.layer (one c.args.width bs)) (rest-whole c.loop-value.at c.args.input.now) in
    reading-none (g.F.Code.code c.args.self.now) one c.args.layer c.args.width (length c.args.values.now) c.args.input.now c.args.place c.loop-value.value-index c.loop-value.at c.loop-value.values _ c.loop-value-test.true ok c.if-place-input.false c.loop-value.invariant took _ e

pub overflow_add-at : goal.overflow_add-at
overflow_add-at g c =
    let ok = (chose (listed c.args.width) _ _ _ c.in_ok-greatest.ensures).0 in
    let took = c.in_ok-next.ensures ∙ ap (λ (bs : List ℕ). taken c.args.layer (g.F.Code.one c.args.self.now c.args.width bs)) (rest-whole c.loop-value.at c.args.input.now) in
    let fits = taken-within (g.met.F.Code.coding c.args.self.now) c.args.layer c.args.width c.args.input.now c.loop-value.at _ ok (λ i. omega (arith, c.type_inv.input i)) took in
    omega (arith, simp length-drop at fits, c.loop-value.invariant.2)

pub loop-value-preserved : goal.loop-value-preserved
loop-value-preserved g c =
    let ok = (chose (listed c.args.width) _ _ _ c.in_ok-greatest.ensures).0 in
    let took = c.in_ok-next.ensures ∙ ap (λ (bs : List ℕ). taken c.args.layer (g.F.Code.one c.args.self.now c.args.width bs)) (rest-whole c.loop-value.at c.args.input.now) in
    let fits = taken-within (g.met.F.Code.coding c.args.self.now) c.args.layer c.args.width c.args.input.now c.loop-value.at _ ok (λ i. omega (arith, c.type_inv.input i)) took in
    reading-more (g.F.Code.one c.args.self.now c.args.width) (length c.args.values.now) c.args.input.now c.args.place c.loop-value.value-index c.loop-value.at c.loop-value.values _ _ c.loop-value-test.true c.loop-value.invariant (taken-got c.args.layer _ _ took) fits

pub returns-clause-values : goal.returns-clause-values
returns-clause-values g c =
    let ok = (chose (listed c.args.width) _ _ _ c.in_ok-greatest.ensures).0 in
    (reading-all (g.F.Code.code c.args.self.now) (g.F.Code.one c.args.self.now) c.args.layer c.args.width (length c.args.values.now) c.args.input.now c.args.place c.loop-value.value-index c.loop-value.at c.loop-value.values c.loop-value-test.false ok c.if-place-input.false c.loop-value.invariant).1
