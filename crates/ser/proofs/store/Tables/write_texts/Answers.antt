use Rattle.std.proofs.Common.{rules, ◌≡◌, ℕ, ◌+◌, ◌-◌, ◌<◌, List, map, length, take, drop, Ok, sym, refl, ap, ◌∙◌, subst, slice_index_or, vec_items, arith}
use Rattle.std.proofs.lemmas.List.{get_or_default}
use Rattle.chain.specs.Chains.{course}
use Rattle.chain.specs.Walks.{place_of}
use Rattle.chain.proofs.Courses.{walk_turn, walk_end}
use Rattle.document.specs.Columns.{joined}
use Rattle.ser.specs.declared.records.Cell.{Cell}
use Rattle.ser.specs.Moves.{blank_cell}
use Rattle.ser.specs.Out.{piece_at, Pieces}
use Rattle.ser.proofs.Outputs.{put-none, put_then, put-refused, put_as, put-within}
use Rattle.ser.proofs.store.Tables.write_texts.Goals as goal

-- the pieces from a place of the chains on
from : List Cell → List ℕ → ℕ → List ℕ
from cells text at = joined (map (piece_at cells text) (course (map (λ c. c.next) cells) at))

-- the part of the text that the code takes is a cell's piece
piece_is : (cells : List Cell) (text letters : List ℕ) (k : ℕ) (cell : Cell) → k < length cells → cell ≡ slice_index_or cells k cell → letters ≡ text
    → take (cell.start + cell.value - cell.start) (drop cell.start letters) ≡ piece_at cells text k
piece_is cells text letters k cell l e f =
    let n : cell.start + cell.value - cell.start ≡ cell.value = omega arith in
    ap (λ m. take m (drop cell.start letters)) n ∙ ap (λ c. take c.value (drop c.start letters)) (e ∙ get_or_default cells k cell blank_cell l) ∙ ap (λ bs. piece_at cells bs k) f

-- a piece finds no room, so the others do not either
pub returns-in_err-end : goal.returns-in_err-end
unfolding from
returns-in_err-end c =
    let cells = vec_items c.args.self.now.cells in
    let text = vec_items c.args.self.now.text in
    let s = walk_turn (λ r. r.next) cells c.loop-k.k-iterator c.next.new.self c.in-Some.k c.loop-k.invariant.2 c.in-Some.ensures.steps in
    let begin : place_of c.into_iter-k-iterator.result ≡ c.args.chain.first = ap place_of c.into_iter-k-iterator.ensures.into_iter_gives ∙ c.walk-k-items.ensures.place in
    let here = put_as (piece_is cells text _ c.in-Some.k c.index.result.now s.3 c.index.ensures (search rules)) refl c.in_err-end.ensures in
    let stop = put-refused c.loop-k.end (piece_at cells text c.in-Some.k) (from cells text (place_of c.next.new.self)) c.loop-k.output c.put_text.new.output _ c.from_residual.result here c.from_residual.ensures.1 in
    put_as (ap (from cells text) begin) refl (c.loop-k.invariant.5 _ _ (put_as (sym (ap (λ ks. joined (map (piece_at cells text) ks)) s.1)) refl stop))

-- one piece more is put
pub loop-k-preserved : goal.loop-k-preserved
unfolding from
loop-k-preserved c =
    let cells = vec_items c.args.self.now.cells in
    let text = vec_items c.args.self.now.text in
    let s = walk_turn (λ r. r.next) cells c.loop-k.k-iterator c.next.new.self c.in-Some.k c.loop-k.invariant.2 c.in-Some.ensures.steps in
    let here = put_as (piece_is cells text _ c.in-Some.k c.index.result.now s.3 c.index.ensures (search rules)) refl c.in_ok-end.ensures in
    let w = put-within c.loop-k.end (piece_at cells text c.in-Some.k) c.loop-k.output c.put_text.new.output c.in_ok-end.end here in (
      tt,
      tt,
      s.0,
      omega (arith, w),
      (subst (Pieces cells text) s.1 c.loop-k.invariant.4).1,
      λ new r q. c.loop-k.invariant.5 new r
          (put_as (sym (ap (λ ks. joined (map (piece_at cells text) ks)) s.1)) refl
          (put_then c.loop-k.end (piece_at cells text c.in-Some.k) (from cells text (place_of c.next.new.self)) c.loop-k.output c.put_text.new.output new c.in_ok-end.end r here q)),
    )

-- all are
pub returns : goal.returns
unfolding from
returns c =
    let cells = vec_items c.args.self.now.cells in
    let text = vec_items c.args.self.now.text in
    let begin : place_of c.into_iter-k-iterator.result ≡ c.args.chain.first = ap place_of c.into_iter-k-iterator.ensures.into_iter_gives ∙ c.walk-k-items.ensures.place in
    let none = walk_end (λ r. r.next) cells c.loop-k.k-iterator c.next.new.self c.loop-k.invariant.2 c.in-None.ensures.steps in
    let last = put-none c.loop-k.end c.loop-k.output c.loop-k.invariant.3 in
    put_as (ap (from cells text) begin) refl
    (c.loop-k.invariant.5 c.loop-k.output (Ok c.loop-k.end) (put_as (sym (ap (λ ks. joined (map (piece_at cells text) ks)) none)) refl last))
