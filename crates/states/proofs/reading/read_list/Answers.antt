use Rattle.std.proofs.Common.{◌≡◌, vec_items, sym, subst, ◌+◌}
use Rattle.states.proofs.Awaited.{no-memory}
use Rattle.states.proofs.Listed.{Listed, zip-equal, none-read, length-failed, item-read, item-failed, end-failed, list-read}
use Rattle.states.proofs.reading.read_list.Goals as goal

pub returns-in_err-end : goal.returns-in_err-end
returns-in_err-end g c input = length-failed c.args.items g.T.Read.calls (λ y x. y ≡ x) _ c.from_residual.result c.in_err-end.field-0.0 c.from_residual.ensures.1 (c.in_err-end.ensures input)

pub loop-init : goal.loop-init
loop-init g c input =
    subst (Listed g.C.Column.meaning input c.args.reader.now c.length.new.reader c.args.items g.T.Read.calls (λ y x. y ≡ x) c.in_ok-end.end 0) (sym c.new-list.ensures.items)
    (none-read c.args.items g.T.Read.calls (λ y x. y ≡ x) c.in_ok-end.end (c.in_ok-end.ensures input))

pub returns-in_err-read : goal.returns-in_err-read
returns-in_err-read g c input =
    item-failed c.args.items g.T.Read.calls (λ y x. y ≡ x) c.in_ok-end.end c.loop.counter (vec_items c.loop.list) (c.loop.invariant input) _ c.from_residual-in_err-read.result c.in_err-read.field-0.0 c.loop-test.true c.from_residual-in_err-read.ensures.1 (c.in_err-read.ensures input)

pub returns-in_err-push : goal.returns-in_err-push
returns-in_err-push g c input =
    no-memory _ c.from_residual-in_err-push.result c.from_residual-in_err-push.ensures.1
    (item-read c.args.items g.T.Read.calls (λ y x. y ≡ x) c.in_ok-end.end c.loop.counter (vec_items c.loop.list) (c.loop.invariant input) c.in_ok-read.field-0 c.loop-test.true (c.in_ok-read.ensures input))

pub loop-preserved : goal.loop-preserved
loop-preserved g c input =
    subst (Listed g.C.Column.meaning input c.args.reader.now c.read.new.reader c.args.items g.T.Read.calls (λ y x. y ≡ x) c.in_ok-end.end (c.loop.counter + 1)) (sym c.in_ok-push.ensures.items)
    (item-read c.args.items g.T.Read.calls (λ y x. y ≡ x) c.in_ok-end.end c.loop.counter (vec_items c.loop.list) (c.loop.invariant input) c.in_ok-read.field-0 c.loop-test.true (c.in_ok-read.ensures input))

pub returns-in_err-end-2 : goal.returns-in_err-end-2
returns-in_err-end-2 g c input =
    end-failed c.args.items g.T.Read.calls (λ y x. y ≡ x) c.in_ok-end.end c.loop.counter (vec_items c.loop.list) (c.loop.invariant input) _ c.from_residual-in_err-end-2.result c.in_err-end-2.field-0.0 c.loop-test.false c.from_residual-in_err-end-2.ensures.1 (c.in_err-end-2.ensures input)

pub returns : goal.returns
returns g c input = list-read c.args.items g.T.Read.calls (λ y x. y ≡ x) c.in_ok-end.end c.loop.counter (vec_items c.loop.list) (c.loop.invariant input) _ c.loop.list (zip-equal (vec_items c.loop.list)) c.loop-test.false (c.in_ok-end-2.ensures input)
