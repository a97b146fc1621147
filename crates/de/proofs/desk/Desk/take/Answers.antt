use Rattle.std.proofs.Common.{rules}
use Rattle.nodes.specs.Stack.{top}
use Rattle.de.specs.Steps.{on_question}
use Rattle.de.proofs.Aiming.{aims-at, aims-at-root}
use Rattle.de.proofs.desk.Desk.take.Goals as goal
use Rattle.de.proofs.desk.Desk.take.Goals.{in-Items-default, in-Keys-default, in-Fields-default, in-Lone-default, in-Root-default, in-Vals-default, in-One-default}

-- the record that is asked is a node's
pub respond-requires : goal.respond-requires
respond-requires g c =
    let p = on_question (top c.args.self.now.places) in
    let r = c.match-place.record.0 in
    elim c.match-place.branch [
      | in-Items-default w ↦ aims-at _ _ p r c.match-place.record.1 (search rules) c.requires.aims
      | in-Keys-default w ↦ aims-at _ _ p r c.match-place.record.1 (search rules) c.requires.aims
      | in-Fields-default w ↦ aims-at _ _ p r c.match-place.record.1 (search rules) c.requires.aims
      | in-Lone-default w ↦ aims-at _ _ p r c.match-place.record.1 (search rules) c.requires.aims
      | in-Root-default w ↦ aims-at-root _ _ p r (search rules) (search rules) c.requires.aims
      | in-Vals-default w ↦ aims-at _ _ p r c.match-place.record.1 (search rules) c.requires.aims
      | in-One-default w ↦ aims-at _ _ p r c.match-place.record.1 (search rules) c.requires.aims
    ]
