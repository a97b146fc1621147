-- What is heard of an answer, and whether the answer is a call's value: one is told by the other.
use Rattle.std.proofs.Common.{◌≡◌, ℕ, zero, suc, Bool, true, false, cond, leb, List, [], ◌∷◌, ◌++◌, length, take, drop, sym, refl, ap, ◌∙◌, subst, ap₂}
use Rattle.column.specs.Meaning.{Meaning}
use Rattle.document.specs.declared.scalars.Scalar.{Scalar}
use Rattle.document.specs.declared.scalars.Scalar.TheVariants as scalars
use Rattle.document.specs.declared.questions.Answer.{Answer}
use Rattle.document.specs.declared.questions.Answer.TheVariants as answers
use Rattle.document.specs.declared.questions.Question.{Question}
use Rattle.document.specs.declared.questions.Question.TheVariants as questions
use Rattle.document.specs.Calls.{Kind, Cell, num, scalar, text, unit, none, some, variant, seq, map, tuple, Call, val, end}
use Rattle.document.specs.Nodes.{Path}
use Rattle.document.specs.Numbers.{Is}
use Rattle.document.specs.Said.{bits, asked}
use Rattle.document.specs.Places.{Place, Next, nowhere, there, next, full, opens, settle, too_many}
use Rattle.document.specs.Reader.{Ask, scalar?, text?, option?, variant?, seq?, map?, tuple?, asks, Store, Reading, Look, found, lost, look, Reply, reply, refuse, Worth, worth, worthless, worth_of, option, oversized, Child, childless, child, child_of, taken, recorded, give, pick, consult, opening, rooted, tupled, standing, respond, answer}
use Rattle.document.specs.Replay.{hearing}
use Rattle.de.specs.Answered.{Answers, Within}
use Rattle.replay.specs.Says.{Says}

-- the call that an answer makes, whose text is the part of the input that it names; a tuple's length is not told by its answer
call_of : Answer → List ℕ → ℕ → Call
call_of (answers.Bool b) input n = val (scalar scalars.Bool (cond b 1 0))
call_of (answers.U8 x) input n = val (scalar scalars.U8 x)
call_of (answers.U16 x) input n = val (scalar scalars.U16 x)
call_of (answers.U32 x) input n = val (scalar scalars.U32 x)
call_of (answers.U64 x) input n = val (scalar scalars.U64 x)
call_of (answers.I8 z) input n = val (scalar scalars.I8 (bits 8 z))
call_of (answers.I16 z) input n = val (scalar scalars.I16 (bits 16 z))
call_of (answers.I32 z) input n = val (scalar scalars.I32 (bits 32 z))
call_of (answers.I64 z) input n = val (scalar scalars.I64 (bits 64 z))
call_of (answers.F32 x) input n = val (scalar scalars.F32 x)
call_of (answers.Text place size) input n = val (text (take size (drop place input)))
call_of answers.Unit input n = val unit
call_of answers.None input n = val none
call_of answers.Some input n = val some
call_of (answers.Variant i) input n = val (variant i)
call_of (answers.Seq m) input n = val (seq m)
call_of (answers.Map m) input n = val (map m)
call_of answers.Tuple input n = val (tuple n)
call_of answers.End input n = end

-- the length of a tuple, 0 of any other call
abbrev size_of : Call → ℕ
size_of (val (scalar k b)) = 0
size_of (val (text bs)) = 0
size_of (val unit) = 0
size_of (val none) = 0
size_of (val some) = 0
size_of (val (variant i)) = 0
size_of (val (seq n)) = 0
size_of (val (map n)) = 0
size_of (val (tuple n)) = n
size_of end = 0

-- a number
number_call : (a : Answer) (k : Scalar) (b : ℕ) (input : List ℕ) (n : ℕ) → Is a k b → val (scalar k b) ≡ call_of a input n
unfolding call_of
number_call (answers.Bool x) k b input n (e, f) = ap₂ (λ j m. val (scalar j m)) e f
number_call (answers.U8 x) k b input n (e, f) = ap₂ (λ j m. val (scalar j m)) e f
number_call (answers.U16 x) k b input n (e, f) = ap₂ (λ j m. val (scalar j m)) e f
number_call (answers.U32 x) k b input n (e, f) = ap₂ (λ j m. val (scalar j m)) e f
number_call (answers.U64 x) k b input n (e, f) = ap₂ (λ j m. val (scalar j m)) e f
number_call (answers.I8 x) k b input n (e, f) = ap₂ (λ j m. val (scalar j m)) e f
number_call (answers.I16 x) k b input n (e, f) = ap₂ (λ j m. val (scalar j m)) e f
number_call (answers.I32 x) k b input n (e, f) = ap₂ (λ j m. val (scalar j m)) e f
number_call (answers.I64 x) k b input n (e, f) = ap₂ (λ j m. val (scalar j m)) e f
number_call (answers.F32 x) k b input n (e, f) = ap₂ (λ j m. val (scalar j m)) e f
number_call (answers.Text place size) k b input n h = absurd h
number_call answers.Unit k b input n h = absurd h
number_call answers.None k b input n h = absurd h
number_call answers.Some k b input n h = absurd h
number_call (answers.Variant i) k b input n h = absurd h
number_call (answers.Seq m) k b input n h = absurd h
number_call (answers.Map m) k b input n h = absurd h
number_call answers.Tuple k b input n h = absurd h
number_call answers.End k b input n h = absurd h

-- what is heard of an answer is the call that it makes
hears_call : (a : Answer) (d : Call) (place : ℕ) (input : List ℕ) → Answers a d place → hearing input d place ≡ call_of a input (size_of d)
unfolding call_of
hears_call a (val (scalar k b)) place input h = number_call a k b input 0 h
hears_call a (val (text bs)) place input h = sym (ap (λ x. call_of x input 0) h)
hears_call a (val unit) place input h = sym (ap (λ x. call_of x input 0) h)
hears_call a (val none) place input h = sym (ap (λ x. call_of x input 0) h)
hears_call a (val some) place input h = sym (ap (λ x. call_of x input 0) h)
hears_call a (val (variant i)) place input h = sym (ap (λ x. call_of x input 0) h)
hears_call a (val (seq n)) place input h = sym (ap (λ x. call_of x input 0) h)
hears_call a (val (map n)) place input h = sym (ap (λ x. call_of x input 0) h)
hears_call a (val (tuple n)) place input h = sym (ap (λ x. call_of x input n) h)
hears_call a end place input h = sym (ap (λ x. call_of x input 0) h)

-- and so is a call whose value the answer is
says_call : (a : Answer) (c : Call) (input : List ℕ) → Says a c input → c ≡ call_of a input (size_of c)
unfolding call_of
says_call a (val (scalar k b)) input h = number_call a k b input 0 h
says_call a (val (text bs)) input h = ap (λ ts. val (text ts)) (sym h.part) ∙ sym (ap (λ x. call_of x input 0) h.is)
says_call a (val unit) input h = sym (ap (λ x. call_of x input 0) h)
says_call a (val none) input h = sym (ap (λ x. call_of x input 0) h)
says_call a (val some) input h = sym (ap (λ x. call_of x input 0) h)
says_call a (val (variant i)) input h = sym (ap (λ x. call_of x input 0) h)
says_call a (val (seq n)) input h = sym (ap (λ x. call_of x input 0) h)
says_call a (val (map n)) input h = sym (ap (λ x. call_of x input 0) h)
says_call a (val (tuple n)) input h = sym (ap (λ x. call_of x input n) h)
says_call a end input h = sym (ap (λ x. call_of x input 0) h)

-- an answer is the value of what is heard of it
heard_says : (a : Answer) (d : Call) (place : ℕ) (input : List ℕ) → Answers a d place → Within input d place → Says a (hearing input d place) input
heard_says a (val (scalar k b)) place input h w = h
heard_says a (val (text bs)) place input h w = record { place = place; size = length bs; is = h; within = w; part = refl }
heard_says a (val unit) place input h w = h
heard_says a (val none) place input h w = h
heard_says a (val some) place input h w = h
heard_says a (val (variant i)) place input h w = h
heard_says a (val (seq n)) place input h w = h
heard_says a (val (map n)) place input h w = h
heard_says a (val (tuple n)) place input h w = h
heard_says a end place input h w = h

-- ---- the length of a tuple is the question's

abbrev asks_size : Question → ℕ
asks_size (questions.Scalar k) = 0
asks_size questions.Text = 0
asks_size questions.Unit = 0
asks_size questions.Option = 0
asks_size questions.Variant = 0
asks_size (questions.Seq flag) = 0
asks_size (questions.Map flag) = 0
asks_size (questions.Tuple n) = n
asks_size questions.End = 0

asked_size : (flag : Bool) (c : Call) → asks_size (asked flag c) ≡ size_of c
asked_size flag (val (scalar k b)) = refl
asked_size flag (val (text bs)) = refl
asked_size flag (val unit) = refl
asked_size flag (val none) = refl
asked_size flag (val some) = refl
asked_size flag (val (variant i)) = refl
asked_size flag (val (seq n)) = refl
asked_size flag (val (map n)) = refl
asked_size flag (val (tuple n)) = refl
asked_size flag end = refl

-- a reply, if it is an answer, makes a call of this size
abbrev Fits : ℕ → Reply → Type 0
Fits n (reply d place R) = size_of d ≡ n
Fits n (refuse e) = Unit {0}

-- what a cell is worth does too
abbrev Worthy : ℕ → Worth → Type 0
Worthy n (worth v) = size_of (val v) ≡ n
Worthy n (worthless e) = Unit {0}

cond_fits : (n : ℕ) (b : Bool) (x y : Reply) → Fits n x → Fits n y → Fits n (cond b x y)
cond_fits n true x y f g = f
cond_fits n false x y f g = g

cond_worthy : (n : ℕ) (b : Bool) (x y : Worth) → Worthy n x → Worthy n y → Worthy n (cond b x y)
cond_worthy n true x y f g = f
cond_worthy n false x y f g = g

recorded_fits : (n : ℕ) (c : Call) (at : ℕ) (fs : List Place) (st : Store) (k : Child) → size_of c ≡ n → Fits n (recorded c at fs st k)
recorded_fits n c at fs st childless e = e
recorded_fits n c at fs st (child q) e = cond_fits n (st.made q) _ _ e (cond_fits n (leb 1 st.records) _ _ e tt)

give_fits : (n : ℕ) (p : Path) (fs : List Place) (K : Kind) (c : Cell) (cs : List Cell) (st : Store) (w : Worth) → Worthy n w → Fits n (give p fs K c cs st w)
give_fits n p fs K c cs st (worth v) e = cond_fits n (too_many (length (opens p v ++ fs))) _ _ tt (recorded_fits n (val v) (st.texts p) (settle (opens p v ++ fs)) (taken p K c cs st) (child_of p v) e)
give_fits n p fs K c cs st (worthless r) e = tt

-- the size that a question to a node asks
abbrev node_size : Ask → ℕ
node_size (scalar? k) = 0
node_size text? = 0
node_size option? = 0
node_size variant? = 0
node_size (seq? flag) = 0
node_size (map? flag) = 0
node_size (tuple? n) = n

option_worthy : (n : ℕ) → Worthy 0 (option n)
option_worthy zero = refl
option_worthy (suc zero) = refl
option_worthy (suc (suc n)) = tt

worth_worthy : (a : Ask) (c : Cell) → Worthy (node_size a) (worth_of a c)
worth_worthy (scalar? k) c = refl
worth_worthy text? c = refl
worth_worthy option? c = option_worthy (num c)
worth_worthy variant? c = refl
worth_worthy (seq? flag) c = cond_worthy 0 (oversized flag (num c)) _ _ tt refl
worth_worthy (map? flag) c = cond_worthy 0 (oversized flag (num c)) _ _ tt refl
worth_worthy (tuple? n) c = refl

consult_fits : (col : Meaning) (st : Store) (p : Path) (fs : List Place) (a : Ask) → Fits (node_size a) (consult col st p fs a)
consult_fits col st p fs a = go (look col p (asks a) st)
  where
    go : (L : Look) → Fits (node_size a) (pick p fs a L)
    go (found [] s) = tt
    go (found (c ∷ cs) s) = give_fits (node_size a) p fs (asks a) c cs s (worth_of a c) (worth_worthy a c)
    go (lost r) = tt

rooted_fits : (n : ℕ) (st : Store) (x : Reply) → Fits n x → Fits n (rooted st x)
rooted_fits n st x f = cond_fits n st.rooted x (refuse _) f tt

opening_fits : (n : ℕ) (fs : List Place) (x : Reply) → Fits n x → Fits n (opening fs x)
opening_fits n fs x f = cond_fits n (too_many (suc (length fs))) (refuse _) x tt f

standing_fits : (n : ℕ) (k : Next) (act : Path → Place → Reply) → ((p : Path) (g : Place) → Fits n (act p g)) → Fits n (standing k act)
standing_fits n nowhere act f = tt
standing_fits n (there p g) act f = f p g

tupled_fits : (col : Meaning) (st : Store) (p : Path) (fs : List Place) (n : ℕ) → Fits n (tupled col st p fs n)
tupled_fits col st p fs zero = consult_fits col st p fs (tuple? 0)
tupled_fits col st p fs (suc zero) = refl
tupled_fits col st p fs (suc (suc n)) = consult_fits col st p fs (tuple? (suc (suc n)))

respond_fits : (col : Meaning) (st : Store) (f : Place) (fs : List Place) (q : Question) → Fits (asks_size q) (respond col st f fs q)
respond_fits col st f fs (questions.Scalar k) = standing_fits 0 (next f) _ (λ p g. rooted_fits 0 st _ (consult_fits col st p (g ∷ fs) (scalar? k)))
respond_fits col st f fs questions.Text = standing_fits 0 (next f) _ (λ p g. rooted_fits 0 st _ (consult_fits col st p (g ∷ fs) text?))
respond_fits col st f fs questions.Unit = standing_fits 0 (next f) _ (λ p g. rooted_fits 0 st _ refl)
respond_fits col st f fs questions.Option = standing_fits 0 (next f) _ (λ p g. rooted_fits 0 st _ (consult_fits col st p (g ∷ fs) option?))
respond_fits col st f fs questions.Variant = standing_fits 0 (next f) _ (λ p g. opening_fits 0 (g ∷ fs) _ (rooted_fits 0 st _ (consult_fits col st p (g ∷ fs) variant?)))
respond_fits col st f fs (questions.Seq flag) = standing_fits 0 (next f) _ (λ p g. opening_fits 0 (g ∷ fs) _ (rooted_fits 0 st _ (consult_fits col st p (g ∷ fs) (seq? flag))))
respond_fits col st f fs (questions.Map flag) = standing_fits 0 (next f) _ (λ p g. opening_fits 0 (g ∷ fs) _ (rooted_fits 0 st _ (consult_fits col st p (g ∷ fs) (map? flag))))
respond_fits col st f fs (questions.Tuple n) = standing_fits n (next f) _ (λ p g. opening_fits n (g ∷ fs) _ (rooted_fits n st _ (tupled_fits col st p (g ∷ fs) n)))
respond_fits col st f fs questions.End = cond_fits 0 (full f) _ _ refl tt

answer_fits : (col : Meaning) (st : Store) (fs : List Place) (q : Question) → Fits (asks_size q) (answer col st fs q)
answer_fits col st [] q = tt
answer_fits col st (f ∷ fs) q = respond_fits col st f fs q

-- ---- so an answer is the call's value exactly where the call is heard

pub hears_says : (col : Meaning) (st : Store) (fs : List Place) (flag : Bool) (c d : Call) (place : ℕ) (R : Reading) (a : Answer) (input : List ℕ) → answer col st fs (asked flag c) ≡ reply d place R → Answers a d place → Within input d place
    → (hearing input d place ≡ c → Says a c input) × (Says a c input → hearing input d place ≡ c)
hears_says col st fs flag c d place R a input e h w = (
  λ q. subst (λ x. Says a x input) q (heard_says a d place input h w),
  λ s. hears_call a d place input h ∙ ap (call_of a input) same ∙ sym (says_call a c input s),
)
  where
    same : size_of d ≡ size_of c
    same = subst (Fits (asks_size (asked flag c))) e (answer_fits col st fs (asked flag c)) ∙ asked_size flag c
