use Rattle.std.proofs.Common.{◌<◌, length, arith, sym, ◌∙◌}
use Rattle.std.proofs.lemmas.Bool.{cond-true, lt-ltb}
use Rattle.nodes.proofs.Stacked.{levels_push}
use Rattle.nodes.proofs.places.Places.open.Goals as goal

pub returns-clause-states : goal.returns-clause-states
returns-clause-states c =
    let p = c.args.self.now in
    let within : p.depth < length p.table = omega arith in
    levels_push p.table p.depth c.args.state within ∙ sym (cond-true _ _ _ (lt-ltb p.depth 32 c.if-self-ge-MOST_OPEN.false))
