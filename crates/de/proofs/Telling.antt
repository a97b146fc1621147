-- A question: the step, the place that it opens, and the places settled.
use Rattle.std.proofs.Common.{◌≡◌, ℕ, ◌+◌, ◌<◌, ◌≤◌, List, [], length, Option, Ok, Err, Result, refl, ap, ◌∙◌, subst, arith}
use mathlib.Core.Logic.{∥∥₁_elim, ∥∥₁_prop}
use native.Mathlib.Bridge.{le_prop}
use Rattle.column.specs.Meaning.{Meaning}
use Rattle.document.specs.declared.refusals.Refusal.{Refusal}
use Rattle.document.specs.declared.questions.Answer.{Answer}
use Rattle.document.specs.declared.questions.Question.{Question}
use Rattle.document.specs.Calls.{Call}
use Rattle.document.specs.Reader.{Reading, Reply, reply, refuse, answer}
use Rattle.std.specs.declared.option.Option.TheVariants as options
use Rattle.nodes.specs.declared.places.State.{State}
use Rattle.nodes.specs.declared.places.Places.{Places}
use Rattle.nodes.specs.Stack.{stack, top, settled, opening}
use Rattle.nodes.proofs.Placing.{length-levels}
use Rattle.de.specs.declared.desk.Desk.{Desk}
use Rattle.de.specs.declared.heard.Heard.{Heard}
use Rattle.de.specs.Moves.{sheets}
use Rattle.de.specs.Served.{Spared, SameLengths}
use Rattle.de.specs.Steps.{plan, is_deep, Took}
use Rattle.de.specs.Standing.{Stands, Told}
use Rattle.de.proofs.Keeping.{reads_spared}
use Rattle.de.proofs.Sizes.{lengths_same, lengths_trans, lengths_spared, lengths-prop}
use Rattle.de.proofs.Stepping.{Moved, Stepped, stepped}

-- a reader that is as it was, but for slots that are not taken, stands for the same reading
stands-spared : (old new : Desk) (input : List ℕ) (R : Reading) → Stands old input R → new.places ≡ old.places → Spared (sheets old.tables) (sheets new.tables) → Stands new input R
stands-spared old new input R S places spared =
    record {
      nodes = S.nodes;
      reads = reads_spared (sheets old.tables) (sheets new.tables) S.nodes input R.store S.reads spared;
      opens = rw places S.opens;
      depth = rw places S.depth;
      table = rw places S.table;
    }

-- a question that is refused
pub told-refused : (input : List ℕ) (R : Reading) (old new : Desk) (a : Reply) (e : Refusal) (res : Result Answer Refusal) → Stands old input R → Stepped input old new a (Err e) → res ≡ Err e → Told input R old new a res
told-refused input R old new (refuse d) e res S (is, places, spared) told = (cc, places, spared, stands-spared old new input R S places spared)
told-refused input R old new (reply c place R') e res S (x, is, m) told = cc

-- a step that is answered has one answer
answered : (input : List ℕ) (old new : Desk) (x y : Heard) (c : Call) (place : ℕ) (R : Reading) → ◌≡◌ {A = Result Heard Refusal} (Ok x) (Ok y) → Moved input old new y c place R → Moved input old new x c place R
answered input old new x y c place R is m = let e : y ≡ x = cc in subst (λ z. Moved input old new z c place R) e m

-- there is room for the place that it opens
opened-room : (input : List ℕ) (old new : Desk) (a : Reply) (x : Heard) → Stepped input old new a (Ok x) → length (opening x.opened (stack new.places)) ≤ 32
opened-room input old new (refuse d) x (is, places, spared) = cc
opened-room input old new (reply c place R') x (y, is, m) = (answered input old new x y c place R' is m).room

-- one place more is open then, if one is opened
length-opening : (o : Option State) (ss : List State) → length (opening o ss) ≡ length (opening o []) + length ss
length-opening options.None ss = omega arith
length-opening (options.Some s) ss = omega arith

-- .. beside those that were
pub opened-places : (o : Option State) (p : Places) → length (opening o (stack p)) ≡ length (opening o []) + p.depth
opened-places o p = length-opening o (stack p) ∙ ap (λ k. length (opening o []) + k) (length-levels p.table p.depth)

-- an answer, once its place is opened and the places are settled
pub told-answered :
    (input : List ℕ) (R : Reading) (old taken new : Desk) (a : Reply) (x : Heard)
    → Stands old input R
    → Stepped input old taken a (Ok x)
    → stack new.places ≡ settled (opening x.opened (stack taken.places))
    → new.places.depth ≤ 32
    → length new.places.table ≡ length taken.places.table
    → new.tables ≡ taken.tables
    → Told input R old new a (Ok x.answer)
told-answered input R old taken new (refuse d) x S (is, places, spared) states depth table tables = cc
told-answered input R old taken new (reply c place R') x S (y, is, m') states depth table tables =
    let m = answered input old taken x y c place R' is m' in (
      x.answer,
      refl,
      m.answers,
      m.lies,
      lengths_trans m.lengths (lengths_same (sheets taken.tables) (sheets new.tables) (ap sheets tables)),
      record {
        nodes = m.nodes;
        reads = rw tables m.reads;
        opens = rw states m.opens;
        depth = depth;
        table = table ∙ m.table ∙ S.table;
      },
    )

-- a reader that stands for some reading has room for the place that a step opens
pub kept-room : (col : Meaning) (input : List ℕ) (old new : Desk) (q : Question) (x : Heard) → 0 < old.places.depth → ∥ ((R : Reading) × Stands old input R) ∥₁
    → Took col input q (is_deep old) old new (Ok x) (plan (top old.places) q) → length (opening x.opened (stack new.places)) ≤ 32
kept-room col input old new q x some s took =
    ∥∥₁_elim s le_prop (λ (R, S). opened-room input old new (answer col R.store R.places q) x (stepped col input old new R S some q (Ok x) took))

-- .. and after a question it stands for some reading
kept-told : (input : List ℕ) (R : Reading) (old new : Desk) (a : Reply) (res : Result Answer Refusal) → Told input R old new a res → ∥ ((R' : Reading) × Stands new input R') ∥₁
kept-told input R old new (refuse e) res (told, places, spared, S) = ∣ (R, S) ∣₁
kept-told input R old new (reply c place R') res (a, told, is, lies, lengths, S) = ∣ (R', S) ∣₁

-- so it does at each question
pub kept : (col : Meaning) (input : List ℕ) (old new : Desk) (q : Question) (res : Result Answer Refusal) → ∥ ((R : Reading) × Stands old input R) ∥₁
    → ((R : Reading) → Stands old input R → Told input R old new (answer col R.store R.places q) res) → ∥ ((R : Reading) × Stands new input R) ∥₁
kept col input old new q res s told = ∥∥₁_elim s ∥∥₁_prop (λ (R, S). kept-told input R old new (answer col R.store R.places q) res (told R S))

-- whatever is told, the tables keep their lengths
lengths-told : (input : List ℕ) (R : Reading) (old new : Desk) (a : Reply) (res : Result Answer Refusal) → Told input R old new a res → SameLengths (sheets old.tables) (sheets new.tables)
lengths-told input R old new (refuse e) res (told, places, spared, S) = lengths_spared spared
lengths-told input R old new (reply c place R') res (a, told, is, lies, lengths, S) = lengths

-- so they do at each question
pub lengths-kept : (col : Meaning) (input : List ℕ) (old new : Desk) (q : Question) (res : Result Answer Refusal) → ∥ ((R : Reading) × Stands old input R) ∥₁
    → ((R : Reading) → Stands old input R → Told input R old new (answer col R.store R.places q) res) → SameLengths (sheets old.tables) (sheets new.tables)
lengths-kept col input old new q res s told = ∥∥₁_elim s (lengths-prop (sheets old.tables) (sheets new.tables)) (λ (R, S). lengths-told input R old new (answer col R.store R.places q) res (told R S))
