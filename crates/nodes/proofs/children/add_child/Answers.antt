use Rattle.std.proofs.Common.{◌∙◌, sym}
use Rattle.nodes.specs.Children.{children_at}
use Rattle.nodes.proofs.Adding.{children-at, added}
use Rattle.nodes.proofs.children.add_child.Goals as goal

-- the table with the child
pub returns-clause-table : goal.returns-clause-table
returns-clause-table g c =
    let t = c.args.table.now in
    let children_of = g.R.Parent.children_of in
    let x = c.index-table-r.result in
    let same = c.children-children.ensures ∙ sym (children-at children_of t c.args.r x c.if-r-table.false) in
    added g.R.Linked.with_next g.R.Parent.with_children t c.append.new.table c.children-children.result (children_at children_of t c.args.r) c.in_ok-longer.longer
    c.args.r c.args.place c.args.child c.index-table-r-2.result c.set_children.new.self c.append.result c.if-r-table.false same
    c.append.ensures.answer c.in_ok-longer.was c.append.ensures.table c.set_children.ensures
