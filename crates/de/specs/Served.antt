-- What a question comes to at the record of a node: what the definitions answer there, and what it does to the tables.
use Rattle.std.specs.Prelude.{◌≡◌, ℕ, suc, ◌≤◌, Bool, List, ◌++◌, length, take, Ok, Err, Result}
use Rattle.column.specs.Meaning.{Meaning}
use Rattle.document.specs.declared.refusals.Refusal.{Refusal}
use Rattle.document.specs.declared.refusals.Refusal.TheVariants as refusals
use Rattle.document.specs.declared.questions.Question.{Question}
use Rattle.document.specs.declared.questions.Question.TheVariants as questions
use Rattle.document.specs.Calls.{unit, val}
use Rattle.document.specs.Nodes.{Path}
use Rattle.document.specs.Places.{Place, settle, too_many}
use Rattle.document.specs.Reader.{Ask, Store, reading, scalar?, text?, option?, variant?, seq?, map?, Reply, reply, refuse, consult, opening, rooted, tupled}
use Rattle.nodes.specs.Homes.{Home}
use Rattle.nodes.specs.Placed.{Opens}
use Rattle.de.specs.declared.heard.Heard.{Heard}
use Rattle.de.specs.Moves.{Sheets}
use Rattle.de.specs.Reads.{Reads}
use Rattle.de.specs.Answered.{Answers, Within, question_of}

-- a question at the node p, with the places gs open once the value is counted; an `end` is none, and is not asked there
abbrev pub served : Meaning → Store → Path → List Place → Question → Reply
served col st p gs (questions.Scalar k) = rooted st (consult col st p gs (scalar? k))
served col st p gs questions.Text = rooted st (consult col st p gs text?)
served col st p gs questions.Unit = rooted st (reply (val unit) 0 (reading (settle gs) st))
served col st p gs questions.Option = rooted st (consult col st p gs option?)
served col st p gs questions.Variant = opening gs (rooted st (consult col st p gs variant?))
served col st p gs (questions.Seq flag) = opening gs (rooted st (consult col st p gs (seq? flag)))
served col st p gs (questions.Map flag) = opening gs (rooted st (consult col st p gs (map? flag)))
served col st p gs (questions.Tuple n) = opening gs (rooted st (tupled col st p gs n))
served col st p gs questions.End = rooted st (refuse refusals.Count)

-- the tables are as they were, but for slots that are not taken
pub record Spared (T T' : Sheets) : Type 0 where
  pub nodes : T'.nodes ≡ T.nodes
  pub used : T'.used ≡ T.used
  pub taken : T'.taken ≡ T.taken
  pub place : T'.place ≡ T.place
  pub columns : T'.columns ≡ T.columns
  pub size : length T'.slots ≡ length T.slots
  pub slots : take T.taken T'.slots ≡ take T.taken T.slots

-- both tables keep their lengths
pub record SameLengths (T T' : Sheets) : Type 0 where
  pub nodes : length T'.nodes ≡ length T.nodes
  pub slots : length T'.slots ≡ length T.slots

-- what was heard is the answer of the definitions; the tables keep their lengths and stand for the state after it, with a record for each node that got one; no place too many is opened
pub record Hears (ps : List Path) (input : List ℕ) (gs opened : List Place) (T T' : Sheets) (S' : Store) (x : Heard) : Type 0 where
  pub more : List Path
  pub reads : Reads T' (ps ++ more) input S'
  pub opens : Opens (ps ++ more) x.opened opened
  pub few : length (opened ++ gs) ≤ 33
  pub lengths : SameLengths T T'

-- .. or the refusal
abbrev pub Replied : List Path → List ℕ → List Place → Sheets → Sheets → Reply → Result Heard Refusal → Type 0
Replied ps input gs T T' (refuse e) res = (res ≡ Err e) × Spared T T'
Replied ps input gs T T' (reply c place R) res =
    (x : Heard) × (fs : List Place) × (res ≡ Ok x) × Answers x.answer c place × Within input c place × (R.places ≡ settle (fs ++ gs)) × Hears ps input gs fs T T' R.store x

-- the record r is a node's, whatever the tables stand for
abbrev pub Readable : List ℕ → Sheets → ℕ → Type 0
Readable input T r = ∥ ((ps : List Path) × (S : Store) × (p : Path) × Reads T ps input S × Home ps r p) ∥₁

-- A question that asks a value of the node at the record r, in a reader over this input with a record for the root.
unfoldable pub Consulted : Meaning → List ℕ → ℕ → Question → Bool → Sheets → Sheets → Result Heard Refusal → Type 0
Consulted col input r q deep T T' res =
    (ps : List Path) (S : Store) (p : Path) (gs : List Place) (a : Ask) → Reads T ps input S → Home ps r p → q ≡ question_of a → length gs ≤ 33 → deep ≡ too_many (suc (length gs))
    → Replied ps input gs T T' (consult col S p gs a) res

-- The question at the record r, in a reader over this input: whatever the tables stand for, what is answered there is what the definitions answer.
unfoldable pub Responded : Meaning → List ℕ → ℕ → Question → Bool → Sheets → Sheets → Result Heard Refusal → Type 0
Responded col input r q deep T T' res =
    (ps : List Path) (S : Store) (p : Path) (gs : List Place) → Reads T ps input S → Home ps r p → length gs ≤ 33 → deep ≡ too_many (suc (length gs))
    → Replied ps input gs T T' (served col S p gs q) res
