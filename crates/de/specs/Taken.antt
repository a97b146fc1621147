-- What taking an answer does to the tables. These mirror the code; what they come to is said in Reads.
use Rattle.std.specs.Prelude.{◌≡◌, ℕ, ◌+◌, ◌^◌, ◌<◌, ◌≤◌, cond, length, Option, IsSome, ◌==◌}
use Rattle.std.specs.declared.option.Option.TheVariants as options
use Rattle.document.specs.declared.questions.Answer.{Answer}
use Rattle.document.specs.declared.questions.Answer.TheVariants as answers
use Rattle.document.specs.declared.questions.Question.{Question}
use Rattle.document.specs.declared.questions.Question.TheVariants as questions
use Rattle.document.specs.Calls.{total, ENUM}
use Rattle.document.specs.Nodes.{alt, demand}
use Rattle.nodes.specs.declared.marks.Mark.{Mark}
use Rattle.nodes.specs.declared.marks.Mark.TheVariants as marks
use Rattle.nodes.specs.declared.places.State.{State}
use Rattle.nodes.specs.declared.places.State.TheVariants.{Items, Keys, Fields, Lone, One}
use Rattle.nodes.specs.Marks.{family_of}
use Rattle.de.specs.declared.records.Node.{Node}
use Rattle.de.specs.declared.columns.Gain.{Gain}
use Rattle.de.specs.Moves.{Sheets, node, spawned, grown, replaced, advanced}
use Rattle.de.specs.Reads.{all_of}
use Rattle.de.specs.Viewed.{View}

-- the number of columns of a node with this mark
abbrev pub columns_with : Mark → ℕ
columns_with marks.Unmarked = 0
columns_with (marks.Scalar k) = 1
columns_with marks.Text = 3
columns_with marks.Seq = 2
columns_with marks.Map = 2
columns_with marks.Enum = 1
columns_with marks.Unit = 0
columns_with (marks.Tuple n) = 0

-- how many values each child has that comes with the mark: a field as many as its tuple, elements, keys and map values the sum of the lengths
abbrev pub children_with : Mark → ℕ → ℕ → ℕ
children_with marks.Unmarked count sum = sum
children_with (marks.Scalar k) count sum = sum
children_with marks.Text count sum = sum
children_with marks.Seq count sum = sum
children_with marks.Map count sum = sum
children_with marks.Enum count sum = sum
children_with marks.Unit count sum = sum
children_with (marks.Tuple n) count sum = count

-- one value of the node is answered, with so many text bytes
abbrev pub stepped : ℕ → Node → Node
stepped letters x = record x { done = x.done + 1; text = x.text + letters }

-- what reading a node's columns brings, if it was just now: the tables are used so far, and the children come that its mark has
abbrev pub brought_in : ℕ → Node → Option Gain → Sheets → Sheets
brought_in r x options.None T = T
brought_in r x (options.Some g) T = grown r (family_of x.mark) (children_with x.mark x.count g.sum) (advanced g.spot.taken g.spot.place (columns_with x.mark) T)

-- the tables once an answer of the node is taken
abbrev pub taken_in : ℕ → View → ℕ → Sheets → Sheets
taken_in r v letters T = brought_in r v.node v.gain (replaced r (stepped letters v.node) T)

-- how many of a node's values are this index
abbrev pub occurrences : Sheets → Node → ℕ → ℕ
occurrences T x i = total (demand ENUM (alt i)) (all_of T x)

-- a new index gets a record; k is its child as it was found
abbrev pub branched : ℕ → ℕ → Option ℕ → Sheets → Sheets
branched r k options.None T = T
branched r k (options.Some i) T = cond (k == 0) (spawned r i (occurrences T (node T r) i) T) T

-- the record of the child then
abbrev pub branch_then : ℕ → Option ℕ → Sheets → ℕ
branch_then k options.None T = k
branch_then k (options.Some i) T = cond (k == 0) T.used k

-- the place that an answer at r opens; k is the record of its index's child
abbrev pub opened_at : Sheets → ℕ → ℕ → Question → Answer → Option State
opened_at T r k q answers.Some = options.Some (One k)
opened_at T r k q (answers.Variant i) = options.Some (One k)
opened_at T r k q (answers.Seq n) = options.Some (Items (node T r).children.first n)
opened_at T r k q (answers.Map n) = options.Some (Keys (node T r).children.first n)
opened_at T r k (questions.Tuple n) answers.Tuple = options.Some (cond (n == 1) (Lone r 1) (Fields (node T r).children.first n))
opened_at T r k q _ = options.None

-- ---- what the moves ask of the tables: bounds alone

-- an index that is new
abbrev pub IsNew : ℕ → Option ℕ → Type 0
IsNew k options.None = ⊥
IsNew k (options.Some i) = k ≡ 0

-- an index is one of 256
abbrev pub IsIndex : Option ℕ → Type 0
IsIndex options.None = Unit {0}
IsIndex (options.Some i) = i < 256

-- there is room for so many children of r
pub record GrowSafe (T : Sheets) (r n : ℕ) : Type 0 where
  pub some : 0 < T.used
  pub within : r < T.used
  pub nodes : T.used + n ≤ length T.nodes
  pub tail : (node T r).children.last < T.used

-- .. for the node's record, the counters and the children that come with its mark
pub record TakeSafe (T : Sheets) (r : ℕ) (v : View) (letters : ℕ) : Type 0 where
  pub some : 0 < T.used
  pub within : r < T.used
  pub nodes : T.used ≤ length T.nodes
  pub left : v.node.done < v.node.count
  pub text : 0 < letters → v.node.text + letters < 2 ^ 64
  pub columns : T.columns + 3 < 2 ^ 32
  pub room : IsSome v.gain → T.used + family_of v.node.mark ≤ length T.nodes
  pub tail : v.node.children.last < T.used

-- .. for the child of an index; k is its record as it was found
pub record BranchSafe (T : Sheets) (r k : ℕ) (i : Option ℕ) : Type 0 where
  pub within : r < length T.nodes
  pub some : 0 < T.used
  pub room : IsNew k i → T.used < length T.nodes
  pub tail : (node T r).children.last < length T.nodes
  pub slots : IsNew k i → (node T r).first + (node T r).count ≤ length T.slots
  pub index : IsIndex i
