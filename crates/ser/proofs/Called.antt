-- A call: the step, the place that it opens, and the places settled.
use Rattle.std.proofs.Common.{◌≡◌, ℕ, ◌+◌, ◌-◌, ◌<◌, ◌≤◌, Bool, true, false, cond, ◌&&◌, eqb, [], ◌∷◌, length, Ok, Err, Option, Result, refl, ap, ◌∙◌, arith, length-set}
use Rattle.std.proofs.lemmas.Bool.{cond-true}
use Rattle.std.proofs.lemmas.Bool.Decides.{nat_tests}
use Rattle.std.specs.declared.option.Option.TheVariants as options
use Rattle.document.specs.declared.refusals.Refusal.{Refusal}
use Rattle.document.specs.declared.refusals.Refusal.TheVariants as refusals
use Rattle.document.specs.Calls.{scalar, text, unit, none, some, variant, seq, map, tuple, Call, val, end}
use Rattle.nodes.specs.declared.places.State.{State}
use Rattle.nodes.specs.declared.places.State.TheVariants.{Root, Items, Keys, Vals, Fields, Lone, One, Closing}
use Rattle.nodes.specs.declared.places.Places.{Places}
use Rattle.nodes.specs.Ahead.{Ahead, nowhere, there, ahead, is_full}
use Rattle.nodes.specs.Stack.{waiting, stack, top, settled, opening, has_room, rest}
use Rattle.nodes.proofs.Stacked.{stack-turned, turned-same, room-to-open}
use Rattle.ser.specs.declared.desk.Desk.{Desk}
use Rattle.ser.specs.Brings.{branching, is_opening}
use Rattle.ser.specs.Moves.{Sheets, sheets, branch_in, entered, entered_child}
use Rattle.ser.specs.Tables.{weighed_at}
use Rattle.ser.specs.Steps.{opened_at, entered_at, answering, entering, Outcome, declined, moved, counted, begun, valued, on_ahead, on_value, outcome, is_deep, as_lent, Took, Did, calling}

-- of d open places, what is opened is at most the 32nd
abbrev pub Roomy : ℕ → Outcome → Type 0
Roomy d (declined e) = Unit {0}
Roomy d (moved s T opened) = length (opening opened []) + d ≤ 32

-- an opening call opens one place, another none
pub opened_one : (T : Sheets) (r k : ℕ) (c : Call) → length (opening (opened_at T r k c) []) ≡ cond (is_opening c) 1 0
opened_one T r k (val (scalar s b)) = refl
opened_one T r k (val (text bs)) = refl
opened_one T r k (val unit) = refl
opened_one T r k (val none) = refl
opened_one T r k (val some) = refl
opened_one T r k (val (variant i)) = refl
opened_one T r k (val (seq n)) = refl
opened_one T r k (val (map n)) = refl
opened_one T r k (val (tuple n)) = refl
opened_one T r k end = refl

-- a verdict's answer
pub answering-roomy : (d : ℕ) (w : Result (Unit {0}) Refusal) (s : State) (T : Sheets) (o : Option State) → length (opening o []) + d ≤ 32 → Roomy d (counted s T (answering w o))
answering-roomy d (Ok u) s T o h = h
answering-roomy d (Err e) s T o h = tt

-- a value in a place, unless it is one too deep
pub valued-roomy : (d : ℕ) (deep : Bool) (T : Sheets) (r : ℕ) (s : State) (c : Call) → d ≤ 32 → deep ≡ (is_opening c && eqb d 32) → Roomy d (valued deep T r s c)
unfolding entering
valued-roomy d true T r s c h e = tt
valued-roomy d false T r s c h e =
    let one = opened_one (entered r (branch_in T r (branching c)) c T) r (entered_child r (branch_in T r (branching c)) c T) c in
    answering-roomy d (weighed_at T r (branch_in T r (branching c)) c) s (entered_at T r c) _ (grind (arith, nat_tests))

-- the root's value
pub begun-roomy : (d : ℕ) (T : Sheets) (x : Result (Option State) Refusal) → d ≤ 32 → Roomy d (begun T x)
begun-roomy d T (Ok opened) h = omega arith
begun-roomy d T (Err e) h = tt

-- a value, by what the place waits for
pub ahead-roomy : (d : ℕ) (deep : Bool) (T : Sheets) (a : Ahead) (c : Call) → d ≤ 32 → deep ≡ (is_opening c && eqb d 32) → Roomy d (on_ahead deep T a c)
ahead-roomy d deep T nowhere c h e = tt
ahead-roomy d deep T (there r s) c h e = valued-roomy d deep T r s c h e

-- an `end` opens nothing
pub end-roomy : (d : ℕ) (b : Bool) (T : Sheets) → d ≤ 32 → Roomy d (cond b (moved Closing T options.None) (declined refusals.Count))
end-roomy d true T h = omega arith
end-roomy d false T h = tt

-- a value in each state
pub on_value-roomy : (d : ℕ) (deep : Bool) (T : Sheets) (s : State) (c : Call) → d ≤ 32 → deep ≡ (is_opening c && eqb d 32) → Roomy d (on_value deep T s c)
on_value-roomy d deep T Root c h e = begun-roomy d (entered_at T 1 c) (entering T 1 c) h
on_value-roomy d deep T (Items r n) c h e = ahead-roomy d deep T (ahead (Items r n)) c h e
on_value-roomy d deep T (Keys r n) c h e = ahead-roomy d deep T (ahead (Keys r n)) c h e
on_value-roomy d deep T (Vals r n) c h e = ahead-roomy d deep T (ahead (Vals r n)) c h e
on_value-roomy d deep T (Fields r n) c h e = ahead-roomy d deep T (ahead (Fields r n)) c h e
on_value-roomy d deep T (Lone r n) c h e = ahead-roomy d deep T (ahead (Lone r n)) c h e
on_value-roomy d deep T (One r) c h e = ahead-roomy d deep T (ahead (One r)) c h e
on_value-roomy d deep T Closing c h e = ahead-roomy d deep T (ahead Closing) c h e

-- a call in each state
pub outcome-roomy : (d : ℕ) (deep : Bool) (T : Sheets) (s : State) (c : Call) → d ≤ 32 → deep ≡ (is_opening c && eqb d 32) → Roomy d (outcome deep T s c)
outcome-roomy d deep T s (val v) h e = on_value-roomy d deep T s (val v) h e
outcome-roomy d deep T s end h e = end-roomy d (is_full s) T h

-- a step that was refused left the desk as it was
unmoved : (d : Desk) → as_lent d ≡ d
unmoved d = ap (λ (q : Places). record { tables = d.tables; places = q }) (turned-same d.places)

-- a refused step is a refused call
pub did-refused : (old new : Desk) (e : Refusal) (o : Outcome) → Took old new (Err e) o → Did old new (Err e) o
did-refused old new e (declined f) t = (cc t.0, t.1 ∙ unmoved old)
did-refused old new e (moved s T x) t = cc t.0

-- what an accepted step leaves to open: there is room for it
pub took-room : (old new : Desk) (opened : Option State) (o : Outcome) → Roomy old.places.depth o → Took old new (Ok opened) o → length (opening opened []) + new.places.depth ≤ 32
took-room old new opened (declined e) h t = cc t.0
took-room old new opened (moved s T x) h t =
    let e : opened ≡ x = cc t.0 in
    let n = ap (λ o. length (opening o [])) e in
    omega (arith, ap (λ (p : Places). p.depth) t.2)

-- where a place is open, a call is the step's outcome
pub called : (d : Desk) (deep : Bool) (c : Call) → 0 < d.places.depth → deep ≡ is_deep d c → outcome deep (sheets d.tables) (top d.places) c ≡ calling d c
called d deep c h e = ap (λ b. outcome b (sheets d.tables) (top d.places) c) e ∙ grind (arith, nat_tests)

-- there is room for the place that an accepted step leaves to open
pub took-opens : (old new : Desk) (opened : Option State) (o : Outcome) → Roomy old.places.depth o → Took old new (Ok opened) o → has_room opened new.places.depth ≡ true
took-opens old new opened o h t = room-to-open opened new.places.depth (took-room old new opened o h t)

-- the step, and the place opened and the places settled: what the call did
pub did-call :
    (old taken new : Desk) (opened : Option State) (o : Outcome)
    → 0 < old.places.depth
    → old.places.depth ≤ 32
    → old.places.depth ≤ length old.places.table
    → Roomy old.places.depth o
    → Took old taken (Ok opened) o
    → stack new.places ≡ cond (has_room opened taken.places.depth) (settled (opening opened (stack taken.places))) (stack taken.places)
    → (taken.places.depth ≤ 32 → new.places.depth ≤ 32)
    → length new.places.table ≡ length taken.places.table
    → new.tables ≡ taken.tables
    → Did old new (Ok tt) o
did-call old taken new opened (declined e) p h l room t ns nd nl nt = cc t.0
did-call old taken new opened (moved s T x) p h l room t ns nd nl nt =
    let e : opened ≡ x = cc t.0 in
    let turns : stack taken.places ≡ s ∷ rest (stack old.places) = ap stack t.2 ∙ stack-turned old.places s p l in
    let same = ap (λ (q : Places). length q.table) t.2 ∙ length-set old.places.table (old.places.depth - 1) (waiting s) in
    let deep = ap (λ (q : Places). q.depth) t.2 in (
      refl,
      ap sheets nt ∙ t.1,
      ns ∙ cond-true _ _ _ (took-opens old taken opened (moved s T x) room t) ∙ ap settled (ap (opening opened) turns ∙ ap (λ y. opening y (s ∷ rest (stack old.places))) e),
      nd (omega arith),
      nl ∙ same,
    )
