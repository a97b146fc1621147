use Rattle.std.proofs.Common.{nat_lt, length, None, Err, sym, ap, ◌∙◌, rules, tests, arith}
use Rattle.std.proofs.lemmas.Iterator.{YieldsList-from_slice, YieldsList-from_take}
use Rattle.std.proofs.lemmas.Iterator.Search.{position_from_yields_List}
use Rattle.std.proofs.lemmas.Bool.{lt-ltb, le-ltb}
use Rattle.column.specs.declared.fault.Cause.TheVariants.{Short, Bad}
use Rattle.column.specs.Parsed.{fault}
use Rattle.column.proofs.Leb128.{answer, front-found, unmarked}
use Rattle.column.proofs.short.form_size.Goals as goal

pub returns-in-Some : goal.returns-in-Some
returns-in-Some c =
    let bs = c.args.bytes.now in
    let found = position_from_yields_List unmarked _ _ c.position.result c.position.ensures.ran (YieldsList-from_take 10 (YieldsList-from_slice bs cc) cc) (λ x b q k. search (rules, tests)) in
    ap (answer c.args.layer (nat_lt (length bs) 10)) (sym c.in-Some.is ∙ found) ∙ sym (front-found c.args.layer bs)

pub returns-in-None : goal.returns-in-None
returns-in-None c =
    let bs = c.args.bytes.now in
    let found = position_from_yields_List unmarked _ _ c.position.result c.position.ensures.ran (YieldsList-from_take 10 (YieldsList-from_slice bs cc) cc) (λ x b q k. search (rules, tests)) in
    let few = lt-ltb (length bs) 10 c.if-bytes-lt-LONGEST.true in
    ap Err (c.at.ensures ∙ ap (fault Short) (omega arith)) ∙ sym (front-found c.args.layer bs ∙ ap (answer c.args.layer (nat_lt (length bs) 10)) (sym found ∙ c.in-None.is) ∙ ap (λ t. answer c.args.layer t None) few)

pub returns-in-None-2 : goal.returns-in-None-2
returns-in-None-2 c =
    let bs = c.args.bytes.now in
    let found = position_from_yields_List unmarked _ _ c.position.result c.position.ensures.ran (YieldsList-from_take 10 (YieldsList-from_slice bs cc) cc) (λ x b q k. search (rules, tests)) in
    let few = le-ltb (length bs) 10 c.if-bytes-lt-LONGEST.false in
    ap Err (c.at-in-None-2.ensures ∙ ap (fault Bad) (omega arith)) ∙ sym (front-found c.args.layer bs ∙ ap (answer c.args.layer (nat_lt (length bs) 10)) (sym found ∙ c.in-None.is) ∙ ap (λ t. answer c.args.layer t None) few)
