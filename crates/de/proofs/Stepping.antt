-- A step tells what the definitions answer, and leaves what stands for the reading after it.
use Rattle.std.proofs.Common.{◌≡◌, ℕ, suc, ◌-◌, ◌<◌, ◌≤◌, Bool, true, false, cond, eqb, List, [], ◌∷◌, ◌++◌, length, Ok, Err, Option, Result, sym, refl, ap, ◌∙◌, subst, inl, inr, ⊎_elim, arith, length-set}
use Rattle.std.proofs.lemmas.Bool.{eq-eqb, ne_eqb, lt-ltb, le-ltb, cases_eq}
use Rattle.column.specs.Meaning.{Meaning}
use Rattle.document.specs.declared.refusals.Refusal.{Refusal}
use Rattle.document.specs.declared.refusals.Refusal.TheVariants as refusals
use Rattle.document.specs.declared.questions.Question.{Question}
use Rattle.document.specs.declared.questions.Question.TheVariants as questions
use Rattle.document.specs.Calls.{Call, end}
use Rattle.document.specs.Nodes.{Path, root}
use Rattle.document.specs.Places.{Place, only, closing, Next, nowhere, there, next, full, settle, too_many}
use Rattle.document.specs.Reader.{Store, Reading, reading, Reply, reply, refuse, standing, answer}
use Rattle.nodes.specs.declared.places.State.{State}
use Rattle.nodes.specs.declared.places.State.TheVariants as states
use Rattle.nodes.specs.declared.places.Places.{Places}
use Rattle.nodes.specs.Ahead.{Ahead, nowhere as no_record, there as at_record, ahead, is_full}
use Rattle.nodes.specs.Stack.{levels, stack, top, turned, settled, opening, rest, replaced}
use Rattle.nodes.specs.Homes.{Home}
use Rattle.nodes.specs.Placed.{Stacked, Open, Opens}
use Rattle.nodes.proofs.Placing.{stacked-mono, length-levels, length-stacked, settles, stacks, Leads, leads, full_is}
use Rattle.nodes.proofs.Stacked.{levels_top, stack-turned, turned-same, replaced-settled}
use Rattle.de.specs.declared.desk.Desk.{Desk}
use Rattle.de.specs.declared.heard.Heard.{Heard}
use Rattle.de.specs.Moves.{sheets}
use Rattle.de.specs.Reads.{Reads}
use Rattle.de.specs.Answered.{Answers, Within}
use Rattle.de.specs.Served.{served, Spared, SameLengths, Replied, Responded}
use Rattle.de.specs.Steps.{Plan, declines, closes, begins, asks, on_ahead, on_question, plan, is_deep, shut, begun, counted, Took}
use Rattle.de.specs.Standing.{Stands}
use Rattle.de.proofs.Aiming.{asks_ahead, open_top}
use Rattle.de.proofs.Keeping.{spared-same}
use Rattle.de.proofs.Sizes.{lengths_same}

-- ---- what a step tells

-- the answer, and what stands for the reading after it once its place is opened and the places are settled
pub record Moved (input : List ℕ) (old new : Desk) (x : Heard) (c : Call) (place : ℕ) (R : Reading) : Type 0 where
  pub answers : Answers x.answer c place
  pub lies : Within input c place
  pub nodes : List Path
  pub reads : Reads (sheets new.tables) nodes input R.store
  pub opens : Open nodes (settled (opening x.opened (stack new.places))) R.places
  pub room : length (opening x.opened (stack new.places)) ≤ 32
  pub table : length new.places.table ≡ length old.places.table
  pub lengths : SameLengths (sheets old.tables) (sheets new.tables)

-- .. or the refusal
abbrev pub Stepped : List ℕ → Desk → Desk → Reply → Result Heard Refusal → Type 0
Stepped input old new (refuse e) res = (res ≡ Err e) × (new.places ≡ old.places) × Spared (sheets old.tables) (sheets new.tables)
Stepped input old new (reply c place R) res = (x : Heard) × (res ≡ Ok x) × Moved input old new x c place R

-- ---- the plan and the answer of the definitions, by the question

-- What holds where a value is asked for and where `end` is asked holds at each question.
by_question : (P : Question → Plan → Reply → Type 0) (col : Meaning) (st : Store) (s : State) (f : Place) (fs : List Place)
    → ((q : Question) → P q (on_question s) (standing (next f) (λ p g. served col st p (g ∷ fs) q)))
    → P questions.End (cond (is_full s) closes (declines refusals.Count)) (cond (full f) (reply end 0 (reading (settle fs) st)) (refuse refusals.Count))
    → (q : Question) → P q (plan s q) (answer col st (f ∷ fs) q)
by_question P col st s f fs value last (questions.Scalar k) = value (questions.Scalar k)
by_question P col st s f fs value last questions.Text = value questions.Text
by_question P col st s f fs value last questions.Unit = value questions.Unit
by_question P col st s f fs value last questions.Option = value questions.Option
by_question P col st s f fs value last questions.Variant = value questions.Variant
by_question P col st s f fs value last (questions.Seq flag) = value (questions.Seq flag)
by_question P col st s f fs value last (questions.Map flag) = value (questions.Map flag)
by_question P col st s f fs value last (questions.Tuple n) = value (questions.Tuple n)
by_question P col st s f fs value last questions.End = last

-- ---- depth and places

-- with d places open in the code, the definitions have one more, and a further one is too many where d is 32
deep_is : (d : ℕ) (gs : List Place) → d ≤ 32 → length gs ≡ suc d → eqb d 32 ≡ too_many (suc (length gs))
deep_is d gs l e = ⊎_elim
    (λ q. eq-eqb d 32 q ∙ sym (lt-ltb 33 (suc (length gs)) (omega arith)))
    (λ q. ne_eqb d 32 q ∙ sym (le-ltb 33 (suc (length gs)) (omega arith)))
    (cases_eq d 32)

-- the place that is opened goes on top, and the places are settled
opened_settled : (ns more : List Path) (o : Option State) (fs : List Place) (ss : List State) (gs : List Place) → Opens (ns ++ more) o fs → Stacked ns ss gs → Open (ns ++ more) (settled (opening o ss)) (settle (fs ++ gs))
opened_settled ns more o fs ss gs h st = settles (ns ++ more) (opening o ss) (fs ++ gs) (stacks (ns ++ more) o fs ss gs h (stacked-mono ns more ss gs st))

-- so many places are open then
opened_few : (ns more : List Path) (o : Option State) (fs : List Place) (ss : List State) (gs : List Place) → Opens (ns ++ more) o fs → Stacked ns ss gs → length (fs ++ gs) ≤ 33 → length (opening o ss) ≤ 32
opened_few ns more o fs ss gs h st few = omega (arith, length-stacked (ns ++ more) (opening o ss) (fs ++ gs) (stacks (ns ++ more) o fs ss gs h (stacked-mono ns more ss gs st)))

-- ---- the step

module _ (col : Meaning) (input : List ℕ) (old new : Desk) (R : Reading) (S : Stands old input R) (some : 0 < old.places.depth) where
  -- the places below the innermost
  abbrev below : List State
  below = levels old.places.table (old.places.depth - 1)

  -- the innermost place with the state that it had
  unturned : new.places ≡ turned old.places (top old.places) → new.places ≡ old.places
  unturned e = e ∙ turned-same old.places

  -- .. and with another
  now-turned : (s : State) → new.places ≡ turned old.places s → stack new.places ≡ s ∷ below
  now-turned s e =
      ap stack e ∙ stack-turned old.places s some (omega (arith, S.depth, S.table)) ∙ ap (λ ss. s ∷ rest ss) (levels_top old.places.table old.places.depth some)

  -- the table of places keeps its length
  table-turned : (s : State) → new.places ≡ turned old.places s → length new.places.table ≡ length old.places.table
  table-turned s e = ap (λ (p : Places). length p.table) e ∙ simp length-set

  -- a refusal
  refused : (q : Question) (e : Refusal) (res : Result Heard Refusal) → Took col input q (is_deep old) old new res (declines e) → Stepped input old new (refuse e) res
  refused q e res (is, tables, places) = (is, unturned places, spared-same (sheets old.tables) (sheets new.tables) (ap sheets tables))

  -- `end` closes the place
  closed : (fs : List Place) (res : Result Heard Refusal) → Stacked S.nodes below fs → Took col input questions.End (is_deep old) old new res closes
      → Stepped input old new (reply end 0 (reading (settle fs) R.store)) res
  closed fs res h (is, tables, places) = (
    _,
    is,
    record {
      answers = refl;
      lies = tt;
      nodes = S.nodes;
      reads = rw tables S.reads;
      opens = rw (now-turned states.Closing places) (settles S.nodes below fs h);
      room = rw (now-turned states.Closing places) (omega (arith, S.depth, length-levels old.places.table (old.places.depth - 1)));
      table = table-turned states.Closing places;
      lengths = lengths_same (sheets old.tables) (sheets new.tables) (ap sheets tables);
    },
  )

  -- a value of the record r, which is p's, in a place whose state is t then
  asked : (q : Question) (r : ℕ) (t : State) (p : Path) (g : Place) (fs : List Place) (res : Result Heard Refusal) → Home S.nodes r p → Stacked S.nodes (t ∷ below) (g ∷ fs)
      → Took col input q (is_deep old) old new res (asks r t) → Stepped input old new (served col R.store p (g ∷ fs) q) res
  unfolding Responded
  asked q r t p g fs res home h (responded, places) =
      go (served col R.store p (g ∷ fs) q) (responded S.nodes R.store p (g ∷ fs) S.reads home (omega (arith, many, S.depth)) (deep_is old.places.depth (g ∷ fs) S.depth many))
    where
      many : length (g ∷ fs) ≡ suc old.places.depth
      many = omega (arith, length-stacked S.nodes (t ∷ below) (g ∷ fs) h, length-levels old.places.table (old.places.depth - 1))

      after : (x : Result Heard Refusal) → res ≡ x → new.places ≡ turned old.places (counted (top old.places) t x)
      after x is = places ∙ ap (λ y. turned old.places (counted (top old.places) t y)) is

      go : (a : Reply) → Replied S.nodes input (g ∷ fs) (sheets old.tables) (sheets new.tables) a res → Stepped input old new a res
      go (refuse e) (is, spared) = (is, unturned (after (Err e) is), spared)
      go (reply c place R') (x, es, is, answers, lies, onto, hears) = (
        x,
        is,
        record {
          answers = answers;
          lies = lies;
          nodes = S.nodes ++ hears.more;
          reads = hears.reads;
          opens = rw (now-turned t (after (Ok x) is), onto) (opened_settled S.nodes hears.more x.opened es (t ∷ below) (g ∷ fs) hears.opens h);
          room = rw (now-turned t (after (Ok x) is)) (opened_few S.nodes hears.more x.opened es (t ∷ below) (g ∷ fs) hears.opens h hears.few);
          table = table-turned t (after (Ok x) is);
          lengths = hears.lengths;
        },
      )

  -- the document's value
  started : (q : Question) (res : Result Heard Refusal) → below ≡ [] → Took col input q (is_deep old) old new res begins → Stepped input old new (served col R.store root (closing ∷ []) q) res
  unfolding Responded
  started q res none_below (x, is, responded, places) =
      go (served col R.store root (closing ∷ []) q) (responded S.nodes R.store root (closing ∷ []) S.reads S.reads.linked.first (omega arith) not_deep)
    where
      not_deep : eqb old.places.depth 32 ≡ false
      not_deep = ne_eqb old.places.depth 32 (λ e. absurd (omega (arith, e, ap length none_below, length-levels old.places.table (old.places.depth - 1))))

      after : (y : Result Heard Refusal) → x ≡ y → new.places ≡ turned old.places (begun (top old.places) y)
      after y e = places ∙ ap (λ z. turned old.places (begun (top old.places) z)) e

      go : (a : Reply) → Replied S.nodes input (closing ∷ []) (sheets old.tables) (sheets new.tables) a x → Stepped input old new a res
      go (refuse e) (e', spared) = (is ∙ ap shut e', unturned (after (Err e) e'), spared)
      go (reply c place R') (y, es, e', answers, lies, onto, hears) =
          let alone : stack new.places ≡ replaced y.opened ∷ [] = now-turned (replaced y.opened) (after (Ok y) e') ∙ ap (λ ss. replaced y.opened ∷ ss) none_below in (
            _,
            is ∙ ap shut e',
            record {
              answers = answers;
              lies = lies;
              nodes = S.nodes ++ hears.more;
              reads = hears.reads;
              opens = rw (alone, replaced-settled y.opened, onto) (opened_settled S.nodes hears.more y.opened es [] (closing ∷ []) hears.opens refl);
              room = rw alone (omega arith);
              table = table-turned (replaced y.opened) (after (Ok y) e');
              lengths = hears.lengths;
            },
          )

  -- a value where the next one stands, if there is one
  ahead-stepped : (q : Question) (fs : List Place) (res : Result Heard Refusal) (a : Ahead) (n : Next) → Leads S.nodes a n → Stacked S.nodes below fs → Took col input q (is_deep old) old new res (on_ahead a)
      → Stepped input old new (standing n (λ p g. served col R.store p (g ∷ fs) q)) res
  ahead-stepped q fs res no_record nowhere l h took = refused q refusals.Count res took
  ahead-stepped q fs res no_record (there p g) l h took = absurd l
  ahead-stepped q fs res (at_record r t) nowhere l h took = absurd l
  ahead-stepped q fs res (at_record r t) (there p g) l h took = asked q r t p g fs res l.0 (l.1, h) took

  -- `end`
  end-stepped : (fs : List Place) (res : Result Heard Refusal) (b : Bool) → Stacked S.nodes below fs → Took col input questions.End (is_deep old) old new res (cond b closes (declines refusals.Count))
      → Stepped input old new (cond b (reply end 0 (reading (settle fs) R.store)) (refuse refusals.Count)) res
  end-stepped fs res true h took = closed fs res h took
  end-stepped fs res false h took = refused questions.End refusals.Count res took

  -- what a step tells is what the definitions answer
  pub stepped : (q : Question) (res : Result Heard Refusal) → Took col input q (is_deep old) old new res (plan (top old.places) q) → Stepped input old new (answer col R.store R.places q) res
  stepped q res took = go R.places (open_top old input R S some)
    where
      go : (fs : List Place) → Open S.nodes (top old.places ∷ below) fs → Stepped input old new (answer col R.store fs q) res
      go fs (inl (is, none_below, first)) =
          rw first
          (by_question (λ q pl a. Took col input q (is_deep old) old new res pl → Stepped input old new a res) col R.store states.Root (only root) []
          (λ q. started q res none_below)
          (refused questions.End refusals.Count res)
          q (subst (λ s. Took col input q (is_deep old) old new res (plan s q)) is took))
      go [] (inr h) = absurd h
      go (f ∷ fs) (inr (placed, h)) =
          by_question (λ q pl a. Took col input q (is_deep old) old new res pl → Stepped input old new a res) col R.store (top old.places) f fs
          (λ q took. ahead-stepped q fs res (ahead (top old.places)) (next f) (leads S.nodes (top old.places) f placed) h (subst (Took col input q (is_deep old) old new res) (asks_ahead S.nodes (top old.places) f placed) took))
          (λ took. end-stepped fs res (full f) h (subst (λ b. Took col input questions.End (is_deep old) old new res (cond b closes (declines refusals.Count))) (full_is S.nodes (top old.places) f placed) took))
          q took
