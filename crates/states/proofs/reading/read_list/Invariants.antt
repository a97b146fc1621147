use Rattle.std.proofs.Common.{◌≡◌, List, ℕ, vec_items}
use Rattle.states.proofs.Listed.{Listed}
use Rattle.states.proofs.reading.read_list.Given as goal

-- so many items were read
abbrev pub invariant-loop : goal.invariant-loop
invariant-loop g l = (input : List ℕ) → Listed g.C.Column.meaning input l.fn.reader l.reader l.fn.items g.T.Read.calls (λ y x. y ≡ x) l.end l.counter (vec_items l.list)
