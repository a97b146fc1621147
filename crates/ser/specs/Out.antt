-- Write-out: the bytes of the marked nodes, as the tables hold them, and what keeps the code within its buffers.
use Rattle.std.specs.Prelude.{◌≡◌, ℕ, zero, suc, ◌+◌, ◌^◌, ◌<◌, ◌≤◌, Bool, cond, ◌&&◌, List, [], ◌++◌, map as each, length, take, drop, replicate, Option, Some, Ok, Err, Result, nat_le, slice_index_or}
use Rattle.std.specs.List.{AllByRecursion}
use Rattle.column.specs.Widths.{Below}
use Rattle.column.specs.Meaning.{Meaning}
use Rattle.column.specs.Interface.{overlaid, Written}
use Rattle.chain.specs.declared.Chain.{Chain}
use Rattle.chain.specs.Chains.{course}
use Rattle.document.specs.declared.refusals.Refusal.{Refusal}
use Rattle.document.specs.declared.refusals.Refusal.TheVariants as refusals
use Rattle.document.specs.Calls.{width}
use Rattle.document.specs.Columns.{length_bytes, joined}
use Rattle.nodes.specs.declared.marks.Mark.{Mark}
use Rattle.nodes.specs.declared.marks.Mark.TheVariants as marks
use Rattle.ser.specs.declared.records.Node.{Node}
use Rattle.ser.specs.declared.records.Cell.{Cell}
use Rattle.ser.specs.Moves.{Sheets, node, blank_cell}

-- ---- what the cells of a chain hold

-- the cells of a chain, one after another
abbrev pub in_chain : List Cell → Chain → List ℕ
in_chain cs chain = course (each (λ c. c.next) cs) chain.first

-- the value of a cell
abbrev pub value_at : List Cell → ℕ → ℕ
value_at cs k = (slice_index_or cs k blank_cell).value

-- where its text begins
abbrev pub start_at : List Cell → ℕ → ℕ
start_at cs k = (slice_index_or cs k blank_cell).start

-- its text
abbrev pub piece_at : List Cell → List ℕ → ℕ → List ℕ
piece_at cs text k = take (value_at cs k) (drop (start_at cs k) text)

-- the values of a chain's cells
abbrev pub values_of : List Cell → Chain → List ℕ
values_of cs chain = each (value_at cs) (in_chain cs chain)

-- their texts
abbrev pub pieces_of : List Cell → List ℕ → Chain → List (List ℕ)
pieces_of cs text chain = each (piece_at cs text) (in_chain cs chain)

-- ---- the bytes

-- a node's bytes by its mark: the columns of its values, and of texts all pieces after them
abbrev pub image_by : Meaning → Mark → List ℕ → List (List ℕ) → List ℕ
image_by col marks.Unmarked vs ts = []
image_by col (marks.Scalar k) vs ts = col.image (width k) vs
image_by col marks.Text vs ts = length_bytes col vs ++ joined ts
image_by col marks.Seq vs ts = length_bytes col vs
image_by col marks.Map vs ts = length_bytes col vs
image_by col marks.Enum vs ts = col.image 8 vs
image_by col marks.Unit vs ts = []
image_by col (marks.Tuple n) vs ts = []

-- the bytes of a node's record
abbrev pub node_image : Meaning → List Cell → List ℕ → Node → List ℕ
node_image col cs text n = image_by col n.mark (values_of cs n.cells) (pieces_of cs text n.cells)

-- the record that was marked as the j-th, from 0 on
abbrev pub ordered : Sheets → ℕ → Node
ordered T j = node T (node T (suc j)).order

-- the bytes of the first n records that were marked
abbrev pub image_up_to : Meaning → Sheets → ℕ → List ℕ
image_up_to col T zero = []
image_up_to col T (suc n) = image_up_to col T n ++ node_image col T.cells T.text (ordered T n)

-- the bytes of all of them
unfoldable pub image_of : Meaning → Sheets → List ℕ
image_of col T = image_up_to col T T.marked

-- ---- what the code needs

-- the values of a node fit the columns of its mark
abbrev pub FitsMark : Mark → List ℕ → Type 0
FitsMark marks.Unmarked vs = Unit {0}
FitsMark (marks.Scalar k) vs = Below (width k) vs
FitsMark marks.Text vs = Below 64 vs
FitsMark marks.Seq vs = Below 64 vs
FitsMark marks.Map vs = Below 64 vs
FitsMark marks.Enum vs = Below 8 vs
FitsMark marks.Unit vs = Unit {0}
FitsMark (marks.Tuple n) vs = Unit {0}

-- what a call of an entry gives at a value is the column's number for it, if there is one
abbrev pub Computes : (ℕ → Option ℕ → Type 0) → (ℕ → Option ℕ) → Type 0
Computes post column = (value : ℕ) (number : Option ℕ) → value < 2 ^ 64 → post value number → number ≡ column value

-- each number that a call at one of these values may give fits the width
abbrev pub EntriesFit : (ℕ → Option ℕ → Type 0) → ℕ → List ℕ → Type 0
EntriesFit post w vs = AllByRecursion (λ v. (n : ℕ) → post v (Some n) → n < 2 ^ w) vs

-- the pieces of cells lie within the text
abbrev pub Pieces : List Cell → List ℕ → List ℕ → Type 0
Pieces cs text ks = AllByRecursion (λ k. start_at cs k + value_at cs k ≤ length text) ks

-- .. where the mark is a text's
abbrev pub PiecesBy : Mark → List Cell → List ℕ → List ℕ → Type 0
PiecesBy marks.Unmarked cs text ks = Unit {0}
PiecesBy (marks.Scalar k) cs text ks = Unit {0}
PiecesBy marks.Text cs text ks = Pieces cs text ks
PiecesBy marks.Seq cs text ks = Unit {0}
PiecesBy marks.Map cs text ks = Unit {0}
PiecesBy marks.Enum cs text ks = Unit {0}
PiecesBy marks.Unit cs text ks = Unit {0}
PiecesBy (marks.Tuple n) cs text ks = Unit {0}

-- of one record, with a scratch of n elements: its cells are no more, its values fit, and its pieces lie within the text
pub record NodeSafe (cs : List Cell) (text : List ℕ) (n : ℕ) (r : Node) : Type 0 where
  pub few : length (in_chain cs r.cells) ≤ n
  pub fits : FitsMark r.mark (values_of cs r.cells)
  pub pieces : PiecesBy r.mark cs text (in_chain cs r.cells)

-- of the tables: the records that were marked lie within the node table, and each is safe
pub record OutSafe (T : Sheets) (n : ℕ) : Type 0 where
  pub listed : (j : ℕ) → j < T.marked → suc j < length T.nodes
  pub within : (j : ℕ) → j < T.marked → (node T (suc j)).order < length T.nodes
  pub safe : (j : ℕ) → j < T.marked → NodeSafe T.cells T.text n (ordered T j)

-- ---- what the code leaves

-- the answer where bytes end at this place of an output of this size
abbrev pub ending : ℕ → ℕ → Result ℕ Refusal
ending n size = cond (nat_le n size) (Ok n) (Err refusals.Room)

-- bytes are put at a place: the answer is the place after them, or that there is no room
pub record Put (place : ℕ) (image old new : List ℕ) (r : Result ℕ Refusal) : Type 0 where
  pub answer : r ≡ ending (place + length image) (length old)
  pub bytes : Written r place image old new

-- whether write-out begins: the document is complete, and the scratch is no shorter than the cells taken
abbrev pub begins : Bool → ℕ → List ℕ → Bool
begins complete cells scratch = complete && nat_le cells (length scratch)

-- what write-out answers: the number of bytes, or the first refusal
abbrev pub wrote : Bool → ℕ → List ℕ → List ℕ → List ℕ → Result ℕ Refusal
wrote complete cells image scratch output =
    cond complete (cond (nat_le cells (length scratch)) (ending (length image) (length output)) (Err refusals.Scratch)) (Err refusals.Early)

-- the scratch then: zero, if write-out begins
abbrev pub scratch_after : Bool → List ℕ → List ℕ
scratch_after begun scratch = cond begun (replicate (length scratch) 0) scratch

-- the output then: if write-out begins, the bytes from the first place on, and zero where they find no room
abbrev pub output_after : Bool → List ℕ → List ℕ → List ℕ
output_after begun image output = cond begun (cond (nat_le (length image) (length output)) (overlaid 0 image output) (replicate (length output) 0)) output

-- what write-out does: its answer, and both buffers
pub record Wrote (complete : Bool) (cells : ℕ) (image scratch output cleared bytes : List ℕ) (r : Result ℕ Refusal) : Type 0 where
  pub answer : r ≡ wrote complete cells image scratch output
  pub scratch-is : cleared ≡ scratch_after (begins complete cells scratch) scratch
  pub output-is : bytes ≡ output_after (begins complete cells scratch) image output
