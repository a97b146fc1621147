use Rattle.std.proofs.Common.{◌≡◌, ℕ, ◌≤◌, List, map, length, Result, vec_items}
use Rattle.document.specs.declared.refusals.Refusal.{Refusal}
use Rattle.chain.specs.Chains.{course}
use Rattle.chain.specs.Walks.{table_of, place_of}
use Rattle.document.specs.Columns.{joined}
use Rattle.ser.specs.Out.{piece_at, Pieces, Put}
use Rattle.ser.proofs.store.Tables.write_texts.Given as goal

-- the walk is over these cells; the pieces that are left lie within the text, and to put them is to have put them all
abbrev pub invariant-loop-k : goal.invariant-loop-k
invariant-loop-k l =
    let cells = vec_items l.self.cells in
    let text = vec_items l.self.text in
    let left = course (map (λ c. c.next) cells) (place_of l.k-iterator) in
    let all = course (map (λ c. c.next) cells) (place_of l.initial.k-iterator) in
    (goal.iterator-loop-k).can_next l.k-iterator × (goal.iterator-loop-k).is_finite l.k-iterator
    × (table_of l.k-iterator ≡ cells)
    × (l.end ≤ length l.output)
    × Pieces cells text left
    × ((new : List ℕ) (r : Result ℕ Refusal) → Put l.end (joined (map (piece_at cells text) left)) l.output new r → Put l.place (joined (map (piece_at cells text) all)) l.initial.output new r)
