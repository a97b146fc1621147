use Rattle.std.proofs.Common.{rules, ◌≡◌, ℕ, ◌^◌, ◌<◌, List, [], ◌++◌, map, length, Option, sym, ap, ◌∙◌, slice_index_or, vec_items}
use Rattle.std.specs.List.{filter_map}
use Rattle.std.proofs.lemmas.List.{append-nil, get_or_default}
use Rattle.chain.specs.Chains.{course}
use Rattle.chain.specs.Walks.{place_of}
use Rattle.chain.proofs.Courses.{walk_end}
use Rattle.ser.specs.declared.records.Cell.{Cell}
use Rattle.ser.specs.Moves.{blank_cell}
use Rattle.ser.specs.Out.{value_at, Computes}
use Rattle.ser.proofs.Outputs.{put-column, after-refused, after-accepted}
use Rattle.ser.proofs.store.Tables.write_column.Goals as goal

-- the numbers in the scratch are those of the chain, where no cell is left
all_gathered : (h : ℕ → Option ℕ) (cells : List Cell) (front left : List ℕ) (at first : ℕ) → left ≡ [] → at ≡ first
    → front ++ filter_map h (map (value_at cells) left) ≡ filter_map h (map (value_at cells) (course (map (λ c. c.next) cells) at))
    → front ≡ filter_map h (map (value_at cells) (course (map (λ c. c.next) cells) first))
all_gathered h cells front left at first none begin q =
    sym (append-nil front) ∙ sym (ap (λ ks. front ++ filter_map h (map (value_at cells) ks)) none) ∙ q ∙ ap (λ k. filter_map h (map (value_at cells) (course (map (λ c. c.next) cells) k))) begin

-- what a call at a cell gives is the column's number for its value
number_is : (column : ℕ → Option ℕ) (post : ℕ → Option ℕ → Type 0) (cells : List Cell) (k : ℕ) (cell : Cell) (r : Option ℕ) → Computes post column → cell.value < 2 ^ 64 → post cell.value r
    → k < length cells → cell ≡ slice_index_or cells k cell → r ≡ column (value_at cells k)
number_is column post cells k cell r computes l h b e = computes cell.value r l h ∙ ap (λ c. column c.value) (e ∙ get_or_default cells k cell blank_cell b)

-- the column finds no room
pub returns-in_err-size : goal.returns-in_err-size
returns-in_err-size g c =
    let cells = vec_items c.args.self.now.cells in
    let none = walk_end (λ r. r.next) cells c.loop-k.k-iterator c.next.new.self c.loop-k.invariant.2 c.in-None.ensures.steps in
    let begin : place_of c.into_iter-k-iterator.result ≡ c.args.chain.first = ap place_of c.into_iter-k-iterator.ensures.into_iter_gives ∙ c.walk-k-items.ensures.place in
    λ column computes. put-column (g.C.Column.meaning c.args.kind.now) c.args.width _ _ c.args.output.now c.write.new.output c.args.place c.write.result c.from_residual.result
    (all_gathered column cells _ _ _ _ none begin (c.loop-k.invariant.6 column computes)) (search rules) c.loop-k.invariant.5 c.write.ensures.answer c.write.ensures.bytes
    (after-refused _ c.args.place c.write.result c.map_err.result c.from_residual.result _ c.map_err.ensures.cases (λ f x h. search rules) c.in_err-size.was c.from_residual.ensures.1)

-- the column is put
pub returns : goal.returns
returns g c =
    let cells = vec_items c.args.self.now.cells in
    let none = walk_end (λ r. r.next) cells c.loop-k.k-iterator c.next.new.self c.loop-k.invariant.2 c.in-None.ensures.steps in
    let begin : place_of c.into_iter-k-iterator.result ≡ c.args.chain.first = ap place_of c.into_iter-k-iterator.ensures.into_iter_gives ∙ c.walk-k-items.ensures.place in
    λ column computes. put-column (g.C.Column.meaning c.args.kind.now) c.args.width _ _ c.args.output.now c.write.new.output c.args.place c.write.result _
    (all_gathered column cells _ _ _ _ none begin (c.loop-k.invariant.6 column computes)) (search rules) c.loop-k.invariant.5 c.write.ensures.answer c.write.ensures.bytes
    (after-accepted _ c.args.place c.write.result c.map_err.result c.in_ok-size.size c.map_err.ensures.cases c.in_ok-size.was)
