use Rattle.std.proofs.Common.{◌≡◌, ℕ, ◌+◌, ◌≤◌, ◌++◌, map, length, take, Option, vec_items}
use Rattle.std.specs.List.{filter_map}
use Rattle.column.specs.Widths.{Below}
use Rattle.chain.specs.Chains.{course}
use Rattle.chain.specs.Walks.{table_of, place_of}
use Rattle.ser.specs.Out.{value_at, Computes, EntriesFit}
use Rattle.ser.proofs.store.Tables.write_column.Given as goal

-- the walk is over these cells, and the scratch has room for the numbers of those that are left; the numbers in it fit, and are, with theirs, those of the chain
abbrev pub invariant-loop-k : goal.invariant-loop-k
invariant-loop-k g l =
    let cells = vec_items l.self.cells in
    let left = course (map (λ c. c.next) cells) (place_of l.k-iterator) in
    let all = course (map (λ c. c.next) cells) (place_of l.initial.k-iterator) in
    (goal.iterator-loop-k g).can_next l.k-iterator × (goal.iterator-loop-k g).is_finite l.k-iterator
    × (table_of l.k-iterator ≡ cells)
    × (l.count + length left ≤ length l.scratch)
    × EntriesFit (goal.F-post g l.entry) l.width (map (value_at cells) left)
    × Below l.width (take l.count l.scratch)
    × ((column : ℕ → Option ℕ) → Computes (goal.F-post g l.entry) column
    → take l.count l.scratch ++ filter_map column (map (value_at cells) left) ≡ filter_map column (map (value_at cells) all))
