use Rattle.std.proofs.Common.{◌+◌, ap, arith}
use Rattle.nodes.proofs.Adding.{child-lent}
use Rattle.de.specs.Moves.{sheets, root_node, with_next, with_children}
use Rattle.de.proofs.store.Tables.spawn.Goals as goal

-- the new record is the last of r's chain
pub returns-clause-tables : goal.returns-clause-tables
returns-clause-tables c =
    let t = c.args.self.now in
    let T = sheets t in
    let ok = t.nodes.ok.0 in
    let within = c.requires.within in
    let e = child-lent (λ n. n.children) root_node with_next (λ n chain. with_children chain n) t.nodes c.deref_mut.result.now c.add_child.new.table c.args.r t.used c.unread.result _ c.add_child.result c.deref_mut.ensures.value c.add_child.auto.table c.unread.ensures
    (omega arith) c.requires.within.1.0 (omega arith) (omega (arith, c.requires.tail)) c.add_child.ensures.answer c.add_child.ensures.table in
    ap (λ ns. record T { nodes = ns; used = T.used + 1 }) e
