use Rattle.std.proofs.Common.{◌∷◌, take}
use Rattle.std.specs.List.{flat_map}
use Rattle.document.specs.Said.{said}
use Rattle.states.specs.Adding.{Adds}
use Rattle.states.proofs.telling.tell_list.Given as goal

-- the elements so far
abbrev pub invariant-loop-element : goal.invariant-loop-element
invariant-loop-element g l = Adds l.fn.writer l.writer (said l.fn.announcement ∷ flat_map g.T.Tell.calls (take l.element-index l.elements))
