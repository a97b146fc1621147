-- What the moves ask of the tables: two proofs of one fact are the same.
use Rattle.std.proofs.Common.{ℕ, List, Option, refl}
use native.Mathlib.Bridge.{le_prop}
use Rattle.std.specs.declared.option.Option.TheVariants as options
use Rattle.document.specs.declared.questions.Question.{Question}
use Rattle.document.specs.declared.questions.Question.TheVariants as questions
use Rattle.de.specs.declared.view.Sight.{Sight}
use Rattle.de.specs.Moves.{Sheets}
use Rattle.de.specs.Viewed.{View, LookSafe}
use Rattle.de.specs.Taken.{TakeSafe, IsIndex, BranchSafe}
use Rattle.de.specs.Hearing.{Stands, HearSafe}

-- that the next value stands in the slots
stands-prop : (T : Sheets) (x : Sight) (q : Question) → IsProp (Stands T x q)
stands-prop T x (questions.Scalar k) a b = λ i. (le_prop a.0 b.0 i, le_prop a.1 b.1 i)
stands-prop T x questions.Text a b = le_prop a b
stands-prop T x questions.Unit a b = refl
stands-prop T x questions.Option a b = le_prop a b
stands-prop T x questions.Variant a b = λ i. (le_prop a.0 b.0 i, le_prop a.1 b.1 i)
stands-prop T x (questions.Seq flag) a b = le_prop a b
stands-prop T x (questions.Map flag) a b = le_prop a b
stands-prop T x (questions.Tuple n) a b = refl
stands-prop T x questions.End a b = refl

-- what hearing asks
pub hear-prop : (T : Sheets) (x : Sight) (q : Question) → IsProp (HearSafe T x q)
hear-prop T x q a b = λ i. record { left = le_prop a.left b.left i; stands = λ l. stands-prop T x q (a.stands l) (b.stands l) i }

-- what looking asks
pub look-prop : (input : List ℕ) (T : Sheets) (r : ℕ) → IsProp (LookSafe input T r)
look-prop input T r a b = λ i. record { within = le_prop a.within b.within i; taken = le_prop a.taken b.taken i; place = le_prop a.place b.place i; columns = le_prop a.columns b.columns i }

-- what taking an answer asks
pub take-prop : (T : Sheets) (r : ℕ) (v : View) (letters : ℕ) → IsProp (TakeSafe T r v letters)
take-prop T r v letters a b = λ i. record {
  some = le_prop a.some b.some i;
  within = le_prop a.within b.within i;
  nodes = le_prop a.nodes b.nodes i;
  left = le_prop a.left b.left i;
  text = λ l. le_prop (a.text l) (b.text l) i;
  columns = le_prop a.columns b.columns i;
  room = λ f. le_prop (a.room f) (b.room f) i;
  tail = le_prop a.tail b.tail i;
}

-- that an index is one of 256
index-prop : (o : Option ℕ) → IsProp (IsIndex o)
index-prop options.None a b = refl
index-prop (options.Some i) a b = le_prop a b

-- what a record for a new branch asks
pub branch-prop : (T : Sheets) (r k : ℕ) (o : Option ℕ) → IsProp (BranchSafe T r k o)
branch-prop T r k o a b = λ i. record {
  within = le_prop a.within b.within i;
  some = le_prop a.some b.some i;
  room = λ n. le_prop (a.room n) (b.room n) i;
  tail = le_prop a.tail b.tail i;
  slots = λ n. le_prop (a.slots n) (b.slots n) i;
  index = index-prop o a.index b.index i;
}
