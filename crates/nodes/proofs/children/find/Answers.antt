use Rattle.std.proofs.Common.{rules}
use borrow.Author.Tests.{tests}
use Rattle.chain.proofs.Walking.{serves_from_walk}
use Rattle.nodes.proofs.Seeking.{seek-walked}
use Rattle.nodes.proofs.children.find.Goals as goal

-- each record of the walk is one of the table
pub find-requires-clause-callable : goal.find-requires-clause-callable
find-requires-clause-callable g c = let e = c.walk.ensures.table in serves_from_walk g.R.Linked.next_of (λ x q k. search rules) (λ x l. search rules)

-- the first child with the index is found
pub returns : goal.returns
returns g c =
    seek-walked c.find.new.self _ g.R.Indexed.index_of c.args.table.now c.args.children.first c.args.index c.find.ensures.ran c.walk.ensures.table c.walk.ensures.place
    (λ k q w. search (rules, tests)) (λ k q w. search (rules, tests)) c.in-Some.is

-- there is none
pub returns-in_default : goal.returns-in_default
returns-in_default g c =
    seek-walked c.find.new.self _ g.R.Indexed.index_of c.args.table.now c.args.children.first c.args.index c.find.ensures.ran c.walk.ensures.table c.walk.ensures.place
    (λ k q w. search (rules, tests)) (λ k q w. search (rules, tests)) c.in_default.is
