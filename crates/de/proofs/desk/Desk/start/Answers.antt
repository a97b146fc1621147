use Rattle.std.proofs.Common.{cond, ltb, set, sym, refl, ap, ◌∙◌, arith}
use Rattle.nodes.specs.Children.{rooted}
use Rattle.de.specs.Moves.{root_node}
use Rattle.de.proofs.Starting.{begins}
use Rattle.de.proofs.desk.Desk.start.Goals as goal

-- a new desk stands for a new reading
pub returns-clause-stands : goal.returns-clause-stands
returns-clause-stands c input =
    let p = c.start.ensures in
    begins _ input c.args.nodes.items c.args.nodes.len c.args.slots.len c.args.nodes.ok.0 (omega (arith, c.rooted.ensures.length, c.rooted.result.ok.0)) (c.rooted.ensures.items ∙ ap (rooted c.args.nodes.items) c.unread.ensures ∙ ap (λ n. cond (ltb 1 n) (set c.args.nodes.items 1 root_node) c.args.nodes.items) (sym c.args.nodes.ok.0)) c.args.slots.ok.0 refl (omega arith) refl refl p.states p.depth p.table
