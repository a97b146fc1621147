-- A reader answers the question that it was asked.
use Rattle.std.proofs.Common.{◌≡◌, ℕ, zero, suc, Bool, true, false, cond, leb, ◌⊎◌, List, [], ◌∷◌, ◌++◌, length, Ok, Result, refl, ap, subst, inl, inr, ⊎_elim}
use mathlib.Core.Logic.{∥∥₁_elim}
use Rattle.column.specs.Meaning.{Meaning}
use Rattle.document.specs.declared.refusals.Refusal.{Refusal}
use Rattle.document.specs.declared.refusals.Refusal.TheVariants as refusals
use Rattle.document.specs.declared.scalars.Scalar.TheVariants as scalars
use Rattle.document.specs.declared.questions.Answer.{Answer}
use Rattle.document.specs.declared.questions.Answer.TheVariants as answers
use Rattle.document.specs.declared.questions.Question.{Question}
use Rattle.document.specs.declared.questions.Question.TheVariants as questions
use Rattle.document.specs.Calls.{Cell, num, str, Value, scalar, text, unit, none, some, variant, seq, map, tuple, Call, val, end}
use Rattle.document.specs.Nodes.{Path}
use Rattle.document.specs.Numbers.{Is}
use Rattle.document.specs.Places.{Place, Next, nowhere, there, next, full, opens, settle, too_many}
use Rattle.document.specs.Reader.{Store, Reading, Look, found, lost, look, Ask, scalar?, text?, option?, variant?, seq?, map?, tuple?, asks, Reply, reply, refuse, Worth, worth, worthless, worth_of, Child, childless, child, child_of, taken, recorded, give, pick, consult, opening, rooted, tupled, standing, respond, answer}
use Rattle.de.specs.declared.reader.Reader.{Reader}
use Rattle.de.specs.Answered.{Answers, question_of}
use Rattle.de.specs.Readers.{StandsFor, Tells}
use Rattle.de.proofs.Answering.{Worths, worth_is}
use Rattle.states.specs.declared.asking.Items.{Items}
use Rattle.states.specs.declared.asking.Items.TheVariants.{Elements, Pairs}
use Rattle.states.specs.Asking.{asks_length}

-- a call that the question asks for
abbrev pub AskedFor : Question → Call → Type 0
AskedFor (questions.Scalar k) c = (b : ℕ) × (c ≡ val (scalar k b))
AskedFor questions.Text c = (bs : List ℕ) × (c ≡ val (text bs))
AskedFor questions.Unit c = c ≡ val unit
AskedFor questions.Option c = (c ≡ val none) ⊎ (c ≡ val some)
AskedFor questions.Variant c = (i : ℕ) × (c ≡ val (variant i))
AskedFor (questions.Seq flag) c = (n : ℕ) × (c ≡ val (seq n))
AskedFor (questions.Map flag) c = (n : ℕ) × (c ≡ val (map n))
AskedFor (questions.Tuple n) c = c ≡ val (tuple n)
AskedFor questions.End c = c ≡ end

-- where there is an answer, it is such a call
record Fits (q : Question) (r : Reply) : Type 0 where
  call : (c : Call) (place : ℕ) (R : Reading) → r ≡ reply c place R → AskedFor q c

-- a refusal is no answer
refused : {q : Question} (e : Refusal) → Fits q (refuse e)
refused e = record { call = λ c place R is. cc }

-- an answer
replied : {q : Question} (c : Call) (place : ℕ) (R : Reading) → AskedFor q c → Fits q (reply c place R)
replied {q = q} c place R h = record { call = λ d at S is. let same : c ≡ d = cc in subst (AskedFor q) same h }

-- whichever a test chooses
chosen : {q : Question} {x y : Reply} (b : Bool) → Fits q x → Fits q y → Fits q (cond b x y)
chosen true h k = h
chosen false h k = k

-- the value that a cell is worth
worth-fits : (a : Ask) (c : Cell) (v : Value) → Worths a c v → AskedFor (question_of a) (val v)
worth-fits (scalar? k) c v e = (num c, ap val e)
worth-fits text? c v e = (str c, ap val e)
worth-fits option? c v e = ⊎_elim (λ n. inl (ap val n)) (λ s. inr (ap val s)) e
worth-fits variant? c v e = (num c, ap val e)
worth-fits (seq? flag) c v e = (num c, ap val e)
worth-fits (map? flag) c v e = (num c, ap val e)
worth-fits (tuple? n) c v e = ap val e

-- .. with a record for its child
recorded-fits : {q : Question} (c : Call) (place : ℕ) (fs : List Place) (st : Store) (k : Child) → AskedFor q c → Fits q (recorded c place fs st k)
recorded-fits c place fs st childless h = replied c place _ h
recorded-fits c place fs st (child p) h = chosen (st.made p) (replied c place _ h) (chosen (leb 1 st.records) (replied c place _ h) (refused refusals.Nodes))

-- .. where it opens no place too many
give-fits : (p : Path) (fs : List Place) (a : Ask) (c : Cell) (cs : List Cell) (st : Store) (w : Worth) → worth_of a c ≡ w → Fits (question_of a) (give p fs (asks a) c cs st w)
give-fits p fs a c cs st (worth v) e =
    chosen (too_many (length (opens p v ++ fs))) (refused refusals.Depth)
    (recorded-fits (val v) (st.texts p) (settle (opens p v ++ fs)) (taken p (asks a) c cs st) (child_of p v) (worth-fits a c v (worth_is a c v e)))
give-fits p fs a c cs st (worthless r) e = refused r

-- the next of a node's cells
pick-fits : (p : Path) (fs : List Place) (a : Ask) (l : Look) → Fits (question_of a) (pick p fs a l)
pick-fits p fs a (found [] st) = refused _
pick-fits p fs a (found (c ∷ cs) st) = give-fits p fs a c cs st (worth_of a c) refl
pick-fits p fs a (lost r) = refused r

-- a question of a node
consult-fits : (col : Meaning) (st : Store) (p : Path) (fs : List Place) (a : Ask) → Fits (question_of a) (rooted st (consult col st p fs a))
consult-fits col st p fs a = chosen st.rooted (pick-fits p fs a (look col p (asks a) st)) (refused _)

-- .. that opens a place
opening-fits : {q : Question} (fs : List Place) (r : Reply) → Fits q r → Fits q (opening fs r)
opening-fits fs r h = chosen (too_many (suc (length fs))) (refused refusals.Depth) h

-- a tuple
tupled-fits : (col : Meaning) (st : Store) (p : Path) (fs : List Place) (n : ℕ) → Fits (questions.Tuple n) (rooted st (tupled col st p fs n))
tupled-fits col st p fs zero = consult-fits col st p fs (tuple? 0)
tupled-fits col st p fs (suc zero) = chosen st.rooted (replied _ _ _ refl) (refused _)
tupled-fits col st p fs (suc (suc n)) = consult-fits col st p fs (tuple? (suc (suc n)))

-- where the next value stands
standing-fits : {q : Question} (n : Next) (act : Path → Place → Reply) → ((p : Path) (g : Place) → Fits q (act p g)) → Fits q (standing n act)
standing-fits nowhere act h = refused _
standing-fits (there p g) act h = h p g

-- with a place open
respond-fits : (col : Meaning) (st : Store) (f : Place) (fs : List Place) (q : Question) → Fits q (respond col st f fs q)
respond-fits col st f fs (questions.Scalar k) = standing-fits (next f) _ (λ p g. consult-fits col st p (g ∷ fs) (scalar? k))
respond-fits col st f fs questions.Text = standing-fits (next f) _ (λ p g. consult-fits col st p (g ∷ fs) text?)
respond-fits col st f fs questions.Unit = standing-fits (next f) _ (λ p g. chosen st.rooted (replied _ _ _ refl) (refused _))
respond-fits col st f fs questions.Option = standing-fits (next f) _ (λ p g. consult-fits col st p (g ∷ fs) option?)
respond-fits col st f fs questions.Variant = standing-fits (next f) _ (λ p g. opening-fits (g ∷ fs) _ (consult-fits col st p (g ∷ fs) variant?))
respond-fits col st f fs (questions.Seq flag) = standing-fits (next f) _ (λ p g. opening-fits (g ∷ fs) _ (consult-fits col st p (g ∷ fs) (seq? flag)))
respond-fits col st f fs (questions.Map flag) = standing-fits (next f) _ (λ p g. opening-fits (g ∷ fs) _ (consult-fits col st p (g ∷ fs) (map? flag)))
respond-fits col st f fs (questions.Tuple n) = standing-fits (next f) _ (λ p g. opening-fits (g ∷ fs) _ (tupled-fits col st p (g ∷ fs) n))
respond-fits col st f fs questions.End = chosen (full f) (replied _ _ _ refl) (refused _)

-- what the definitions answer
answer-fits : (col : Meaning) (st : Store) (fs : List Place) (q : Question) → Fits q (answer col st fs q)
answer-fits col st [] q = refused _
answer-fits col st (f ∷ fs) q = respond-fits col st f fs q

-- a reader's answer is a value that the question asks for, so it is none that no such value has
pub no-other : {C : Type 0} (col : Meaning) (old new : Reader C) (q : Question) (r : Result Answer Refusal) (a : Answer) → r ≡ Ok a → ((R : Reading) → StandsFor old R → Tells old new R (answer col R.store R.places q) r)
    → ((c : Call) (place : ℕ) → AskedFor q c → Answers a c place → ⊥) → ⊥
no-other col old new q r a is told other = ∥∥₁_elim old.stands (λ x y. absurd x) (λ (R, S). go R (answer col R.store R.places q) (answer-fits col R.store R.places q) (told R S))
  where
    go : (R : Reading) (p : Reply) → Fits q p → Tells old new R p r → ⊥
    go R (reply c place R') fits (b, was, ans, within, lengths, stands) = let same : b ≡ a = cc in other c place (fits.call c place R' refl) (subst (λ x. Answers x c place) same ans)
    go R (refuse e) fits (was, places, spared, stands) = cc

-- the answer to a number of eight bits
pub number-told : (a : Answer) (c : Call) (place : ℕ) → AskedFor (questions.Scalar scalars.U8) c → Answers a c place → (n : ℕ) × (a ≡ answers.U8 n)
number-told a c place (b, e) ans = go a (subst (λ x. Answers a x place) e ans)
  where
    go : (x : Answer) → Is x scalars.U8 b → (n : ℕ) × (x ≡ answers.U8 n)
    go (answers.Bool x) (k, n) = cc
    go (answers.U8 x) (k, n) = (x, refl)
    go (answers.U16 x) (k, n) = cc
    go (answers.U32 x) (k, n) = cc
    go (answers.U64 x) (k, n) = cc
    go (answers.I8 x) (k, n) = cc
    go (answers.I16 x) (k, n) = cc
    go (answers.I32 x) (k, n) = cc
    go (answers.I64 x) (k, n) = cc
    go (answers.F32 x) (k, n) = cc
    go (answers.Text at n) h = absurd h
    go answers.Unit h = absurd h
    go answers.None h = absurd h
    go answers.Some h = absurd h
    go (answers.Variant i) h = absurd h
    go (answers.Seq n) h = absurd h
    go (answers.Map n) h = absurd h
    go answers.Tuple h = absurd h
    go answers.End h = absurd h

-- .. to an option
pub option-told : (a : Answer) (c : Call) (place : ℕ) → AskedFor questions.Option c → Answers a c place → (a ≡ answers.None) ⊎ (a ≡ answers.Some)
option-told a c place (inl e) ans = inl (subst (λ x. Answers a x place) e ans)
option-told a c place (inr e) ans = inr (subst (λ x. Answers a x place) e ans)

-- the answer of this length: of a list to the question for one, and of a map to that for a map
abbrev pub length_answer : Items → ℕ → Answer
length_answer Elements n = answers.Seq n
length_answer Pairs n = answers.Map n

-- .. to the length of a list or a map
pub length-told : (items : Items) (a : Answer) (c : Call) (place : ℕ) → AskedFor (asks_length items) c → Answers a c place → (n : ℕ) × (a ≡ length_answer items n)
length-told Elements a c place (n, e) ans = (n, subst (λ x. Answers a x place) e ans)
length-told Pairs a c place (n, e) ans = (n, subst (λ x. Answers a x place) e ans)
