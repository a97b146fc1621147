-- A place that waits for a value waits for it at a record of a node.
use Rattle.std.proofs.Common.{◌≡◌, ℕ, ◌-◌, ◌<◌, List, [], ◌∷◌, refl, subst, inl, inr, arith}
use mathlib.Core.Logic.{∥∥₁_elim, ∥∥₁_prop}
use Rattle.document.specs.Nodes.{Path}
use Rattle.document.specs.Places.{Place, items, keys, vals, fields, lone, only, closing, Next, nowhere, there, next}
use Rattle.document.specs.Reader.{Reading, Store}
use Rattle.nodes.specs.declared.places.State.{State}
use Rattle.nodes.specs.Ahead.{Ahead, nowhere as no_record, there as at_record, ahead}
use Rattle.nodes.specs.Stack.{levels, top}
use Rattle.nodes.specs.Placed.{Placed, Open}
use Rattle.nodes.proofs.Placing.{Leads, leads}
use Rattle.nodes.proofs.Stacked.{levels_top}
use Rattle.de.specs.declared.desk.Desk.{Desk}
use Rattle.de.specs.Moves.{Sheets, sheets}
use Rattle.de.specs.Reads.{Reads}
use Rattle.de.specs.Served.{Readable}
use Rattle.de.specs.Steps.{Plan, declines, closes, begins, asks, on_ahead, on_question, Aims}
use Rattle.de.specs.Standing.{Stands}
use native.Mathlib.Bridge.{le_prop}

-- a record that is a node's is in use
pub readable-used : (input : List ℕ) (T : Sheets) (r : ℕ) → Readable input T r → r < T.used
readable-used input T r h = ∥∥₁_elim h le_prop (λ (ps, S, p, reads, home). omega (arith, reads.linked.used, home.1))

-- a place of the definitions is not the root's: the record that it asks is where its next value stands
pub asks_ahead : (ns : List Path) (s : State) (f : Place) → Placed ns s f → on_question s ≡ on_ahead (ahead s)
asks_ahead ns s (items p n) h = rw h.1 refl
asks_ahead ns s (keys p n) h = rw h.1 refl
asks_ahead ns s (vals p n) h = rw h.1 refl
asks_ahead ns s (fields p i n) h = rw h.1 refl
asks_ahead ns s (lone p n) h = rw h.1 refl
asks_ahead ns s (only p) h = rw h.1 refl
asks_ahead ns s closing h = rw h refl

-- what a place waits for is readable
ahead-aims : (input : List ℕ) (T : Sheets) (ns : List Path) (S : Store) → Reads T ns input S → (a : Ahead) (n : Next) → Leads ns a n → Aims input T (on_ahead a)
ahead-aims input T ns S reads no_record n h = tt
ahead-aims input T ns S reads (at_record r t) nowhere h = absurd h
ahead-aims input T ns S reads (at_record r t) (there p g) h = ∣ (ns, S, p, reads, h.0) ∣₁

-- what the innermost of the open places waits for is readable
open-aims : (input : List ℕ) (T : Sheets) (ns : List Path) (S : Store) → Reads T ns input S → (s : State) (ss : List State) (fs : List Place) → Open ns (s ∷ ss) fs → Aims input T (on_question s)
open-aims input T ns S reads s ss fs (inl (is, none_below, first)) = rw is (∣ (ns, S, _, reads, reads.linked.first) ∣₁)
open-aims input T ns S reads s ss [] (inr h) = absurd h
open-aims input T ns S reads s ss (f ∷ fs) (inr h) = rw (asks_ahead ns s f h.0) (ahead-aims input T ns S reads (ahead s) (next f) (leads ns s f h.0))

-- the innermost place's state, and those below
pub open_top : (d : Desk) (input : List ℕ) (R : Reading) (S : Stands d input R) → 0 < d.places.depth → Open S.nodes (top d.places ∷ levels d.places.table (d.places.depth - 1)) R.places
open_top d input R S h = subst (λ ss. Open S.nodes ss R.places) (levels_top d.places.table d.places.depth h) S.opens

-- two proofs of it are one
aims-prop : (input : List ℕ) (T : Sheets) (x : Plan) → IsProp (Aims input T x)
aims-prop input T (declines e) a b = refl
aims-prop input T closes a b = refl
aims-prop input T begins a b = ∥∥₁_prop a b
aims-prop input T (asks r s) a b = ∥∥₁_prop a b

-- a reader that stands for some reading asks a record of a node
pub kept-aims : (d : Desk) (input : List ℕ) → 0 < d.places.depth → ∥ ((R : Reading) × Stands d input R) ∥₁ → Aims input (sheets d.tables) (on_question (top d.places))
kept-aims d input h s =
    ∥∥₁_elim s (aims-prop input (sheets d.tables) (on_question (top d.places))) (λ (R, S). open-aims input (sheets d.tables) S.nodes R.store S.reads (top d.places) _ R.places (open_top d input R S h))

-- a plan that asks a record asks a node's
pub aims-at : (input : List ℕ) (T : Sheets) (x : Plan) (r : ℕ) (t : State) → x ≡ asks r t → Aims input T x → Readable input T r
aims-at input T x r t e aims = subst (Aims input T) e aims

-- .. and so does one that begins
pub aims-at-root : (input : List ℕ) (T : Sheets) (x : Plan) (r : ℕ) → x ≡ begins → r ≡ 1 → Aims input T x → Readable input T r
aims-at-root input T x r e is aims = rw is (subst (Aims input T) e aims)
