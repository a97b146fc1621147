-- A reader: its state, and what it answers.
use Rattle.std.specs.Prelude.{ℕ, zero, suc, ◌+◌, ◌-◌, Bool, true, false, cond, ◌&&◌, List, [], ◌∷◌, ◌++◌, length, ◌==◌, nat_le, nat_lt}
use Rattle.column.specs.Meaning.{Meaning}
use Rattle.document.specs.declared.scalars.Scalar.{Scalar}
use Rattle.document.specs.declared.refusals.Refusal.{Refusal}
use Rattle.document.specs.declared.refusals.Refusal.TheVariants as refusals
use Rattle.document.specs.declared.questions.Question.{Question}
use Rattle.document.specs.declared.questions.Question.TheVariants as questions
use Rattle.document.specs.Calls.{total, Kind, SCALAR, TEXT, SEQ, MAP, ENUM, TUPLE, Cell, num, str, Value, scalar, text, unit, none, some, variant, seq, map, tuple, Call, val, end}
use Rattle.document.specs.Nodes.{Path, root, ◌▹◌, alt, same, demand}
use Rattle.document.specs.Places.{Place, Next, nowhere, there, next, full, opens, settle, start, too_many}
use Rattle.document.specs.Fetch.{Supply, supply, Fetched, fetched, denied, fetch, columns_of}
use Rattle.document.specs.Tables.{takes, usable_nodes, usable_cells}
use Rattle.document.specs.Verdict.{kind_number}

-- ---- kinds, as the reader tells them apart: signed and unsigned numbers of one width are one kind

-- kinds by number (see `kind_number`), the signed numbers as the unsigned ones four before them, and what comes after likewise
abbrev pub code : Kind → ℕ
code K = cond (nat_lt (kind_number K) 5) (kind_number K) (kind_number K - 4)

-- one kind to the reader
abbrev pub kin : Kind → Kind → Bool
kin J K = code J == code K

-- ---- the state

-- a node that is still to be read, with the number of its values, or one that is read, with what is left of its cells
pub data Node : Type 0 where
  fresh : ℕ → Node
  ready : Kind → List Cell → Node

-- the nodes; which ENUM children have a record; whether the root has one; what is free of the node records and the slots;
-- the input that is left, how many bytes and columns were read, and the place of each node's next text
pub record Store : Type 0 where
  pub nodes : Path → Node
  pub made : Path → Bool
  pub rooted : Bool
  pub records : ℕ
  pub slots : ℕ
  pub input : List ℕ
  pub place : ℕ
  pub columns : ℕ
  pub texts : Path → ℕ

-- a reader between two questions
pub record Reading : Type 0 where
  pub places : List Place
  pub store : Store

-- a reader with these places open
abbrev pub reading : List Place → Store → Reading
reading fs st = record { places = fs; store = st }

-- no node is read: the root has one value
abbrev pub unread : Path → Node
unread root = fresh 1
unread (p ▹ s) = fresh 0

-- a new reader, with tables of so many node records and slots
abbrev pub begin : ℕ → ℕ → List ℕ → Reading
begin nodes slots bs =
    reading start
    (record { nodes = unread; made = λ q. false; rooted = nat_le 1 (usable_nodes nodes); records = usable_nodes nodes - 1; slots = usable_cells slots; input = bs; place = 0; columns = 0; texts = λ q. 0 })

-- a map with another value at p
abbrev pub put : {X : Type 0} → Path → X → (Path → X) → Path → X
put p x xs q = cond (same p q) x (xs q)

-- the children of a node that has just been read get their numbers of values
abbrev pub spread : Path → Kind → List Cell → (Path → Node) → Path → Node
spread p K cs ns root = ns root
spread p K cs ns (r ▹ s) = cond (same p r) (fresh (total (demand K s) cs)) (ns (r ▹ s))

-- ---- a node's cells

-- the number of letters of a cell
abbrev pub letter_count : Cell → ℕ
letter_count c = length (str c)

-- a node's cells and the state with its columns read, or a refusal
pub data Look : Type 0 where
  found : List Cell → Store → Look
  lost : Refusal → Look

-- a node whose columns were read: its texts stand at the end of what was read
abbrev pub opened : Path → Kind → List Cell → Supply → Store → Store
opened p K cs u st =
    record { nodes = spread p K cs st.nodes; made = st.made; rooted = st.rooted; records = st.records - takes K; slots = u.slots; input = u.input; place = st.place + (length st.input - length u.input); columns = st.columns + columns_of K; texts = put p (st.place + (length st.input - length u.input) - total letter_count cs) st.texts }

-- the node was read just now
abbrev pub newly : Path → Kind → Store → Fetched (List Cell) → Look
newly p K st (fetched cs u) = found cs (opened p K cs u st)
newly p K st (denied r) = lost r

-- a node that is met first is read; another one is of the kind that is asked for
abbrev pub looked : Meaning → Path → Kind → Store → Node → Look
looked col p K st (fresh n) =
    cond (nat_le (takes K) st.records) (newly p K st (fetch col st.columns K n (supply st.slots st.input))) (lost refusals.Nodes)
looked col p K st (ready H cs) = cond (kin H K) (found cs st) (lost refusals.Kind)

-- a node's cells
abbrev pub look : Meaning → Path → Kind → Store → Look
look col p K st = looked col p K st (st.nodes p)

-- ---- answers

-- a question that asks for a value of some node
pub data Ask : Type 0 where
  scalar? : Scalar → Ask
  text? option? variant? : Ask
  seq? map? : Bool → Ask
  tuple? : ℕ → Ask

-- the kind that a question asks for
abbrev pub asks : Ask → Kind
asks (scalar? k) = SCALAR k
asks text? = TEXT
asks option? = ENUM
asks variant? = ENUM
asks (seq? flag) = SEQ
asks (map? flag) = MAP
asks (tuple? n) = TUPLE n

-- the call that an answer makes, with the place in the input of a text, and the state after it; or a refusal
pub data Reply : Type 0 where
  reply : Call → ℕ → Reading → Reply
  refuse : Refusal → Reply

-- a cell as the answer to a question
pub data Worth : Type 0 where
  worth : Value → Worth
  worthless : Refusal → Worth

-- an option's index
abbrev pub option : ℕ → Worth
option zero = worth none
option (suc zero) = worth some
option (suc (suc n)) = worthless refusals.Option

-- a flagged length above 65,536
abbrev pub oversized : Bool → ℕ → Bool
oversized flag n = flag && nat_lt 65536 n

-- a cell, as this question has it
abbrev pub worth_of : Ask → Cell → Worth
worth_of (scalar? k) c = worth (scalar k (num c))
worth_of text? c = worth (text (str c))
worth_of option? c = option (num c)
worth_of variant? c = worth (variant (num c))
worth_of (seq? flag) c = cond (oversized flag (num c)) (worthless refusals.NoSize) (worth (seq (num c)))
worth_of (map? flag) c = cond (oversized flag (num c)) (worthless refusals.NoSize) (worth (map (num c)))
worth_of (tuple? n) c = worth (tuple n)

-- a child that takes a record when it is new: none for a `none`
pub data Child : Type 0 where
  childless : Child
  child : Path → Child

-- the child at which the value that follows stands
abbrev pub child_of : Path → Value → Child
child_of p (scalar k b) = childless
child_of p (text bs) = childless
child_of p unit = childless
child_of p none = childless
child_of p some = child (p ▹ alt 1)
child_of p (variant i) = child (p ▹ alt i)
child_of p (seq n) = childless
child_of p (map n) = childless
child_of p (tuple n) = childless

-- a child has its record
abbrev pub with_child : Path → Store → Store
with_child q st =
    record { nodes = st.nodes; made = put q true st.made; rooted = st.rooted; records = st.records - 1; slots = st.slots; input = st.input; place = st.place; columns = st.columns; texts = st.texts }

-- a new child takes a record, if there is one
abbrev pub recorded : Call → ℕ → List Place → Store → Child → Reply
recorded c at fs st childless = reply c at (reading fs st)
recorded c at fs st (child q) =
    cond (st.made q) (reply c at (reading fs st)) (cond (nat_le 1 st.records) (reply c at (reading fs (with_child q st))) (refuse refusals.Nodes))

-- a cell of the node was taken: these are left, and its next text stands behind this one
abbrev pub taken : Path → Kind → Cell → List Cell → Store → Store
taken p K c cs st =
    record { nodes = put p (ready K cs) st.nodes; made = st.made; rooted = st.rooted; records = st.records; slots = st.slots; input = st.input; place = st.place; columns = st.columns; texts = put p (st.texts p + letter_count c) st.texts }

-- the answer, where it opens no place too many
abbrev pub give : Path → List Place → Kind → Cell → List Cell → Store → Worth → Reply
give p fs K c cs st (worth v) =
    cond (too_many (length (opens p v ++ fs))) (refuse refusals.Depth) (recorded (val v) (st.texts p) (settle (opens p v ++ fs)) (taken p K c cs st) (child_of p v))
give p fs K c cs st (worthless r) = refuse r

-- the next of the node's cells; that there is none does not happen
abbrev pub pick : Path → List Place → Ask → Look → Reply
pick p fs a (found [] st) = refuse refusals.Count
pick p fs a (found (c ∷ cs) st) = give p fs (asks a) c cs st (worth_of a c)
pick p fs a (lost r) = refuse r

-- a question of a node
abbrev pub consult : Meaning → Store → Path → List Place → Ask → Reply
consult col st p fs a = pick p fs a (look col p (asks a) st)

-- a question that opens a place whatever the answer
abbrev pub opening : List Place → Reply → Reply
opening fs r = cond (too_many (suc (length fs))) (refuse refusals.Depth) r

-- without a root record each value is refused in its turn
abbrev pub rooted : Store → Reply → Reply
rooted st r = cond st.rooted r (refuse refusals.Nodes)

-- a `tuple 1` asks nothing of a node
abbrev pub tupled : Meaning → Store → Path → List Place → ℕ → Reply
tupled col st p fs zero = consult col st p fs (tuple? 0)
tupled col st p fs (suc zero) = reply (val (tuple 1)) 0 (reading (settle (opens p (tuple 1) ++ fs)) st)
tupled col st p fs (suc (suc n)) = consult col st p fs (tuple? (suc (suc n)))

-- where the next value stands, if there is one, with the place once it is counted
abbrev pub standing : Next → (Path → Place → Reply) → Reply
standing nowhere act = refuse refusals.Count
standing (there p g) act = act p g

-- a question with f as the innermost place. A unit and a `tuple 1` ask nothing of a node
abbrev pub respond : Meaning → Store → Place → List Place → Question → Reply
respond col st f fs (questions.Scalar k) = standing (next f) (λ p g. rooted st (consult col st p (g ∷ fs) (scalar? k)))
respond col st f fs questions.Text = standing (next f) (λ p g. rooted st (consult col st p (g ∷ fs) text?))
respond col st f fs questions.Unit = standing (next f) (λ p g. rooted st (reply (val unit) 0 (reading (settle (g ∷ fs)) st)))
respond col st f fs questions.Option = standing (next f) (λ p g. rooted st (consult col st p (g ∷ fs) option?))
respond col st f fs questions.Variant = standing (next f) (λ p g. opening (g ∷ fs) (rooted st (consult col st p (g ∷ fs) variant?)))
respond col st f fs (questions.Seq flag) = standing (next f) (λ p g. opening (g ∷ fs) (rooted st (consult col st p (g ∷ fs) (seq? flag))))
respond col st f fs (questions.Map flag) = standing (next f) (λ p g. opening (g ∷ fs) (rooted st (consult col st p (g ∷ fs) (map? flag))))
respond col st f fs (questions.Tuple n) = standing (next f) (λ p g. opening (g ∷ fs) (rooted st (tupled col st p (g ∷ fs) n)))
respond col st f fs questions.End = cond (full f) (reply end 0 (reading (settle fs) st)) (refuse refusals.Count)

-- the answer to a question
abbrev pub answer : Meaning → Store → List Place → Question → Reply
answer col st [] q = refuse refusals.Complete
answer col st (f ∷ fs) q = respond col st f fs q
