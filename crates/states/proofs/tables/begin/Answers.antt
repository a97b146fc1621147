use Rattle.replay.proofs.Giving.{new-sizes}
use Rattle.states.proofs.tables.begin.Goals as goal

pub returns-clause-sizes : goal.returns-clause-sizes
returns-clause-sizes c =
    new-sizes c.new.result c.args.tables c.new.ensures.nodes c.new.ensures.cells c.new.ensures.text
