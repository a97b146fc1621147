-- One call, as the code goes about it: by the innermost place's state.
use Rattle.std.specs.Prelude.{◌≡◌, ℕ, ◌≤◌, Bool, cond, ◌&&◌, ◌∷◌, length, Ok, Err, Option, Result, ◌==◌}
use Rattle.std.specs.declared.option.Option.TheVariants as options
use Rattle.document.specs.declared.refusals.Refusal.{Refusal}
use Rattle.document.specs.declared.refusals.Refusal.TheVariants as refusals
use Rattle.document.specs.Calls.{scalar, text, unit, none, some, variant, seq, map, tuple, Call, val, end}
use Rattle.nodes.specs.declared.places.State.{State}
use Rattle.nodes.specs.declared.places.State.TheVariants.{Root, Items, Keys, Fields, Lone, One, Closing}
use Rattle.nodes.specs.Stack.{stack, top, turned, settled, opening, rest, replaced}
use Rattle.nodes.specs.Ahead.{Ahead, nowhere, there, ahead, is_full}
use Rattle.ser.specs.declared.desk.Desk.{Desk}
use Rattle.ser.specs.Brings.{branching, is_opening}
use Rattle.ser.specs.Moves.{Sheets, sheets, node, branch_in, entered, entered_child}
use Rattle.ser.specs.Tables.{lacks_nodes, weighed_at}

-- ---- a value at a record

-- the place that a value at r opens; k is the record of its index's child
abbrev pub opened_at : Sheets → ℕ → ℕ → Call → Option State
opened_at T r k (val (scalar s b)) = options.None
opened_at T r k (val (text bs)) = options.None
opened_at T r k (val unit) = options.None
opened_at T r k (val none) = options.None
opened_at T r k (val some) = options.Some (One k)
opened_at T r k (val (variant i)) = options.Some (One k)
opened_at T r k (val (seq n)) = options.Some (Items (node T r).children.first n)
opened_at T r k (val (map n)) = options.Some (Keys (node T r).children.first n)
opened_at T r k (val (tuple n)) = options.Some (cond (n == 1) (Lone r 1) (Fields (node T r).children.first n))
opened_at T r k end = options.None

-- a `tuple 1` takes no record of its own
abbrev pub lone_at : Sheets → ℕ → Result (Option State) Refusal
lone_at T r = cond (lacks_nodes T 0) (Err refusals.Nodes) (Ok (options.Some (Lone r 1)))

-- the tables after it
unfoldable pub entered_at : Sheets → ℕ → Call → Sheets
entered_at T r c = entered r (branch_in T r (branching c)) c T

-- a verdict, with an answer where it accepts
abbrev pub answering : {X : Type 0} → Result (Unit {0}) Refusal → X → Result X Refusal
answering (Ok u) x = Ok x
answering (Err e) x = Err e

-- the verdict on it, with the place that it opens
unfoldable pub entering : Sheets → ℕ → Call → Result (Option State) Refusal
entering T r c = answering (weighed_at T r (branch_in T r (branching c)) c) (opened_at (entered r (branch_in T r (branching c)) c T) r (entered_child r (branch_in T r (branching c)) c T) c)

-- ---- the innermost place and the call together

-- a refusal; or the state of the place once the value is counted, the tables then, and the place that is opened
pub data Outcome : Type 0 where
  declined : Refusal → Outcome
  moved : State → Sheets → Option State → Outcome

-- the value goes in, and the place's state is s then
abbrev pub counted : State → Sheets → Result (Option State) Refusal → Outcome
counted s T (Ok opened) = moved s T opened
counted s T (Err e) = declined e

-- the root's place gives way to the one that its value opens
abbrev pub begun : Sheets → Result (Option State) Refusal → Outcome
begun T (Ok opened) = moved (replaced opened) T options.None
begun T (Err e) = declined e

-- a value at r, in a place whose state is s then; deep tells that it would open a place too many
abbrev pub valued : Bool → Sheets → ℕ → State → Call → Outcome
valued deep T r s c = cond deep (declined refusals.Depth) (counted s (entered_at T r c) (entering T r c))

-- a value, by what the place waits for
abbrev pub on_ahead : Bool → Sheets → Ahead → Call → Outcome
on_ahead deep T nowhere c = declined refusals.Count
on_ahead deep T (there r s) c = valued deep T r s c

-- a value in each state
abbrev pub on_value : Bool → Sheets → State → Call → Outcome
on_value deep T Root c = begun (entered_at T 1 c) (entering T 1 c)
on_value deep T s c = on_ahead deep T (ahead s) c

-- a call in each state
abbrev pub outcome : Bool → Sheets → State → Call → Outcome
outcome deep T s (val v) = on_value deep T s (val v)
outcome deep T s end = cond (is_full s) (moved Closing T options.None) (declined refusals.Count)

-- ---- the desk

-- a 33rd place
abbrev pub is_deep : Desk → Call → Bool
is_deep d c = is_opening c && d.places.depth == 32

-- the innermost place lent and given back as it was
abbrev pub as_lent : Desk → Desk
as_lent d = record { tables = d.tables; places = turned d.places (top d.places) }

-- what the step did: refused, nothing
abbrev pub Took : Desk → Desk → Result (Option State) Refusal → Outcome → Type 0
Took old new r (declined e) = (r ≡ Err e) × (new ≡ as_lent old)
Took old new r (moved s T opened) = (r ≡ Ok opened) × (sheets new.tables ≡ T) × (new.places ≡ turned old.places s)

-- what a call did: refused, nothing; accepted, the places are settled
abbrev pub Did : Desk → Desk → Result (Unit {0}) Refusal → Outcome → Type 0
Did old new r (declined e) = (r ≡ Err e) × (new ≡ old)
Did old new r (moved s T opened) =
    (r ≡ Ok tt)
    × (sheets new.tables ≡ T)
    × (stack new.places ≡ settled (opening opened (s ∷ rest (stack old.places))))
    × (new.places.depth ≤ 32)
    × (length new.places.table ≡ length old.places.table)

-- .. with no place open, the document is complete
abbrev pub calling : Desk → Call → Outcome
calling d c = cond (d.places.depth == 0) (declined refusals.Complete) (outcome (is_deep d c) (sheets d.tables) (top d.places) c)
