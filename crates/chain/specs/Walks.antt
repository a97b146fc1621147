-- The parts of a walk, by name.
use Rattle.std.specs.Prelude.{ℕ, List}
use Rattle.chain.specs.declared.walks.Walk.{Walk}

-- the table that is walked
abbrev pub table_of : {R : Type 0} → Walk R → List R
table_of w = w.table.now

-- where the walk stands: the record that comes next, and none at 0 or outside the table
abbrev pub place_of : {R : Type 0} → Walk R → ℕ
place_of w = w.at
