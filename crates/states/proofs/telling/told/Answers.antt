use Rattle.replay.specs.Given.{sizes_for}
use Rattle.states.specs.Documents.{state_calls}
use Rattle.states.proofs.Added.{all-told}
use Rattle.states.proofs.telling.told.Goals as goal

pub returns : goal.returns
returns c =
    rw c.close.ensures (all-told (sizes_for c.args.tables) c.begin-writer.result c.tell-answer.new.writer (state_calls c.args.state) c.tell-answer.result c.begin-writer.ensures.stands c.begin-writer.ensures.sizes c.tell-answer.ensures)
