-- A call tells the verdict of the definitions, and the writer stands for one call more where it was accepted.
use Rattle.std.proofs.Common.{◌≡◌, ℕ, zero, suc, ◌+◌, ◌-◌, ◌≤◌, Bool, true, false, cond, ◌&&◌, eqb, ltb, ◌↔◌, List, [], ◌∷◌, ◌++◌, length, get_or, Ok, Err, Option, Result, sym, refl, ap, ◌∙◌, subst, ap₂, inl, inr, arith}
use mathlib.Core.Logic.{∥∥₁_elim, ∥∥₁_prop}
use Rattle.std.proofs.lemmas.List.{append-nil, append_assoc, length-append}
use Rattle.std.proofs.lemmas.Bool.{eq-eqb, ne_eqb, lt-ltb, le-ltb, cases_eq, and_right}
use Rattle.std.specs.declared.option.Option.TheVariants as options
use Rattle.document.specs.declared.refusals.Refusal.{Refusal}
use Rattle.document.specs.declared.refusals.Refusal.TheVariants as refusals
use Rattle.document.specs.Calls.{Value, scalar, text, unit, none, some, variant, seq, map, tuple, Call, val, end}
use Rattle.document.specs.Nodes.{Path, root}
use Rattle.document.specs.Entries.{Entry, leaves}
use Rattle.document.specs.Places.{Place, items, keys, vals, fields, lone, only, closing, Next, nowhere, there, next, full, opens, settle, too_many, goes, turn, start}
use Rattle.document.specs.Trace.{trace, places_after}
use Rattle.document.specs.Records.{added_by, nodes_of}
use Rattle.document.specs.Verdict.{Sizes, weighed, judged, verdict, Real, AcceptedAfter, Accepted}
use Rattle.document.proofs.Accepting.{accepted-runs, accepted-held}
use Rattle.document.proofs.Growth.{nodes-more}
use Rattle.nodes.specs.declared.places.State.{State}
use Rattle.nodes.specs.declared.places.State.TheVariants as states
use Rattle.nodes.specs.Stack.{waiting, levels, stack, top, settled, opening, rest}
use Rattle.nodes.specs.Ahead.{Ahead, nowhere as no_record, there as at_record, ahead}
use Rattle.nodes.specs.Homes.{Home}
use Rattle.nodes.specs.Placed.{Placed, Stacked, Open, Opens}
use Rattle.nodes.proofs.Placing.{stacked-mono, length-levels, length-stacked, settles, stacks, Leads, leads, full_is}
use Rattle.nodes.proofs.Stacked.{replaced-settled}
use Rattle.ser.specs.declared.desk.Desk.{Desk}
use Rattle.ser.specs.Brings.{index_of, is_opening}
use Rattle.ser.specs.Moves.{Sheets, sheets, branch_in, entered_child}
use Rattle.ser.specs.Tables.{sizes_of, weighed_at}
use Rattle.ser.specs.Steps.{opened_at, entered_at, answering, entering, Outcome, declined, moved, counted, begun, on_ahead, on_value, outcome, Did, calling}
use Rattle.ser.specs.Held.{Holds}
use Rattle.ser.specs.Standing.{Stands, Told}
use Rattle.ser.proofs.Plans.{Judges, Enters}

-- ---- a value at a record

-- The verdict on a value at the record r of the node p, with the place that it opens: refused, it is that of the definitions;
-- accepted, the tables hold its entries too and are as long as they were.
abbrev Weighs : Sheets → List Entry → ℕ → Path → Value → Result (Option State) Refusal → Type 0
Weighs T ts r p v (Ok opened) =
    (weighed (sizes_of T) ts v (leaves p v) ≡ Ok tt)
    × (sizes_of (entered_at T r (val v)) ≡ sizes_of T)
    × Holds (entered_at T r (val v)) (ts ++ leaves p v)
    × Opens (nodes_of (ts ++ leaves p v)) opened (opens p v)
Weighs T ts r p v (Err e) = weighed (sizes_of T) ts v (leaves p v) ≡ Err e

-- the code's answer is of this form
weighs : Judges → Enters → (T : Sheets) (cs : List Call) → Accepted (sizes_of T) cs → Holds T (trace start cs) → (r : ℕ) (p : Path) → Home (nodes_of (trace start cs)) r p → (v : Value) → Real (val v)
    → Weighs T (trace start cs) r p v (entering T r (val v))
unfolding entering entered_at
weighs judges enters T cs a h r p home v real = go (weighed_at T r (branch_in T r (index_of v)) (val v)) refl
  where
    go : (w : Result (Unit {0}) Refusal) → weighed_at T r (branch_in T r (index_of v)) (val v) ≡ w
        → Weighs T (trace start cs) r p v (answering w (opened_at (entered_at T r (val v)) r (entered_child r (branch_in T r (index_of v)) (val v) T) (val v)))
    go (Ok tt) is = let k = enters T cs a h r p home v real is in (sym (judges T cs a h r p home v) ∙ is, k.sizes, k.holds, k.opened)
    go (Err e) is = sym (judges T cs a h r p home v) ∙ is

-- ---- depth

-- whether a value opens a place does not depend on its node
opens-length : (p : Path) (v : Value) → length (opens p v) ≡ cond (is_opening (val v)) 1 0
opens-length p (scalar k b) = refl
opens-length p (text bs) = refl
opens-length p unit = refl
opens-length p none = refl
opens-length p some = refl
opens-length p (variant i) = refl
opens-length p (seq n) = refl
opens-length p (map n) = refl
opens-length p (tuple zero) = refl
opens-length p (tuple (suc zero)) = refl
opens-length p (tuple (suc (suc n))) = refl

-- with m places open beside the root's own, a value opens one too many where it opens one at all and m is 32
deep_is : (p : Path) (v : Value) (m : ℕ) (fs : List Place) → m ≤ 32 → length fs ≡ suc m → too_many (length (opens p v ++ fs)) ≡ (is_opening (val v) && eqb m 32)
deep_is p v m fs l e = ap too_many (length-append (opens p v) fs ∙ ap₂ ◌+◌ (opens-length p v) e) ∙ go (is_opening (val v))
  where
    go : (b : Bool) → ltb 33 (cond b 1 0 + suc m) ≡ (b && eqb m 32)
    go true = elim (cases_eq m 32) [ inl q ↦ lt-ltb 33 (1 + suc m) (omega arith) ∙ sym (eq-eqb m 32 q) | inr q ↦ le-ltb 33 (1 + suc m) (omega arith) ∙ sym (ne_eqb m 32 q) ]
    go false = le-ltb 33 (0 + suc m) (omega arith)

-- ---- the code and the definitions agree

-- what a call that is taken does: its turn, and the tables and the places that stand for it
record Turns (T : Sheets) (ts : List Entry) (fs : List Place) (c : Call) (T' : Sheets) (ss : List State) : Type 0 where
  left : List Entry
  onto : List Place
  turned : turn fs c ≡ goes left onto
  accepted : judged (sizes_of T) ts c (turn fs c) ≡ Ok tt
  sizes : sizes_of T' ≡ sizes_of T
  holds : Holds T' (ts ++ left)
  opened : Open (nodes_of (ts ++ left)) ss onto

-- an outcome is the verdict of the definitions, after entries ts with the places fs open; ss are the places below the innermost
abbrev Agrees : Sheets → List Entry → List Place → Call → List State → Outcome → Type 0
Agrees T ts fs c ss (declined e) = judged (sizes_of T) ts c (turn fs c) ≡ Err e
Agrees T ts fs c ss (moved s T' opened) = Turns T ts fs c T' (settled (opening opened (s ∷ ss)))

-- a value that is taken goes in with ss open, and opens its place on top of them
value-turns : (T : Sheets) (ts : List Entry) (fs gs : List Place) (ss : List State) (r : ℕ) (p : Path) (v : Value) (opened : Option State)
    → turn fs (val v) ≡ goes (leaves p v) (settle (opens p v ++ gs)) → Stacked (nodes_of ts) ss gs → Weighs T ts r p v (Ok opened)
    → Turns T ts fs (val v) (entered_at T r (val v)) (settled (opening opened ss))
value-turns T ts fs gs ss r p v opened is h w =
    let more = subst (λ ns. Stacked ns ss gs) (sym (nodes-more ts (leaves p v))) (stacked-mono (nodes_of ts) (added_by ts (leaves p v)) ss gs h) in
    record {
      left = leaves p v;
      onto = settle (opens p v ++ gs);
      turned = is;
      accepted = rw is w.0;
      sizes = w.1;
      holds = w.2;
      opened = settles (nodes_of (ts ++ leaves p v)) (opening opened ss) (opens p v ++ gs) (stacks (nodes_of (ts ++ leaves p v)) opened (opens p v) ss gs w.3 more);
    }

-- a value in a place whose state is s then
counted-agrees : (T : Sheets) (ts : List Entry) (fs gs : List Place) (ss : List State) (r : ℕ) (p : Path) (v : Value) (s : State) (x : Result (Option State) Refusal)
    → turn fs (val v) ≡ goes (leaves p v) (settle (opens p v ++ gs)) → Stacked (nodes_of ts) (s ∷ ss) gs → Weighs T ts r p v x
    → Agrees T ts fs (val v) ss (counted s (entered_at T r (val v)) x)
counted-agrees T ts fs gs ss r p v s (Ok opened) is h w = value-turns T ts fs gs (s ∷ ss) r p v opened is h w
counted-agrees T ts fs gs ss r p v s (Err e) is h w = rw is w

-- the document's value
begun-agrees : (T : Sheets) (ts : List Entry) (r : ℕ) (v : Value) (x : Result (Option State) Refusal)
    → turn start (val v) ≡ goes (leaves root v) (settle (opens root v ++ closing ∷ [])) → Weighs T ts r root v x → Agrees T ts start (val v) [] (begun (entered_at T r (val v)) x)
begun-agrees T ts r v (Ok opened) is w = rw (replaced-settled opened) (value-turns T ts start (closing ∷ []) [] r root v opened is refl w)
begun-agrees T ts r v (Err e) is w = rw is w

-- a place other than the root's goes by what it waits for
on-ahead : (ns : List Path) (s : State) (f : Place) → Placed ns s f → (deep : Bool) (T : Sheets) (c : Call) → on_value deep T s c ≡ on_ahead deep T (ahead s) c
on-ahead ns s (items p n) h deep T c = rw h.1
on-ahead ns s (keys p n) h deep T c = rw h.1
on-ahead ns s (vals p n) h deep T c = rw h.1
on-ahead ns s (fields p i n) h deep T c = rw h.1
on-ahead ns s (lone p n) h deep T c = rw h.1
on-ahead ns s (only p) h deep T c = rw h.1
on-ahead ns s closing h deep T c = rw h

-- a call with the code's places open: the states s ∷ ss for the places fs
stacked-agrees : Judges → Enters → (T : Sheets) (cs : List Call) → Accepted (sizes_of T) cs → Holds T (trace start cs) → (s : State) (ss : List State) (fs : List Place)
    → Stacked (nodes_of (trace start cs)) (s ∷ ss) fs → length (s ∷ ss) ≤ 32 → (c : Call) → Real c
    → Agrees T (trace start cs) fs c ss (outcome (is_opening c && eqb (length (s ∷ ss)) 32) T s c)
stacked-agrees judges enters T cs a h s ss [] st l c real = absurd st
stacked-agrees judges enters T cs a h s ss (f ∷ fs) st l (val v) real =
    rw (on-ahead (nodes_of (trace start cs)) s f st.0 (is_opening (val v) && eqb (length (s ∷ ss)) 32) T (val v))
    (go (ahead s) (next f) refl (leads (nodes_of (trace start cs)) s f st.0))
  where
    go : (x : Ahead) (n : Next) → next f ≡ n → Leads (nodes_of (trace start cs)) x n
        → Agrees T (trace start cs) (f ∷ fs) (val v) ss (on_ahead (is_opening (val v) && eqb (length (s ∷ ss)) 32) T x (val v))
    go no_record nowhere is w = rw is
    go no_record (there p g) is w = absurd w
    go (at_record r t) nowhere is w = absurd w
    go (at_record r t) (there p g) is (home, placed) = rw (← deep_is p v (length (s ∷ ss)) (g ∷ fs) l (length-stacked (nodes_of (trace start cs)) (s ∷ ss) (f ∷ fs) st)) (aux (too_many (length (opens p v ++ g ∷ fs))) refl)
      where
        aux : (b : Bool) → too_many (length (opens p v ++ g ∷ fs)) ≡ b
            → Agrees T (trace start cs) (f ∷ fs) (val v) ss (cond b (declined refusals.Depth) (counted t (entered_at T r (val v)) (entering T r (val v))))
        aux true q = rw (is, q)
        aux false q =
            counted-agrees T (trace start cs) (f ∷ fs) (g ∷ fs) ss r p v t (entering T r (val v)) (rw (is, q)) (placed, st.1) (weighs judges enters T cs a h r p home v real)
stacked-agrees judges enters T cs a h s ss (f ∷ fs) st l end real = rw (full_is (nodes_of (trace start cs)) s f st.0) (go (full f) refl)
  where
    go : (b : Bool) → full f ≡ b → Agrees T (trace start cs) (f ∷ fs) end ss (cond b (moved states.Closing T options.None) (declined refusals.Count))
    go true q =
        record {
          left = [];
          onto = settle fs;
          turned = rw q;
          accepted = rw q;
          sizes = refl;
          holds = rw append-nil h;
          opened = rw append-nil (settles (nodes_of (trace start cs)) ss fs st.1);
        }
    go false q = rw q

-- .. with the root's place open
root-agrees : Judges → Enters → (T : Sheets) (cs : List Call) → Accepted (sizes_of T) cs → Holds T (trace start cs) → (c : Call) → Real c → (deep : Bool)
    → Agrees T (trace start cs) start c [] (outcome deep T states.Root c)
root-agrees judges enters T cs a h (val v) real deep =
    let few = deep_is root v 0 (closing ∷ []) (omega arith) refl ∙ and_right (is_opening (val v)) (eqb 0 32) refl in
    begun-agrees T (trace start cs) 1 v (entering T 1 (val v)) (rw few) (weighs judges enters T cs a h 1 root (omega arith, omega arith, refl) v real)
root-agrees judges enters T cs a h end real deep = refl

-- .. with any open
open-agrees : Judges → Enters → (T : Sheets) (cs : List Call) → Accepted (sizes_of T) cs → Holds T (trace start cs) → (s : State) (ss : List State) (fs : List Place)
    → Open (nodes_of (trace start cs)) (s ∷ ss) fs → length (s ∷ ss) ≤ 32 → (c : Call) → Real c
    → Agrees T (trace start cs) fs c ss (outcome (is_opening c && eqb (length (s ∷ ss)) 32) T s c)
open-agrees judges enters T cs a h s ss fs (inl (is, none_below, first)) l c real =
    rw (is, none_below, first) (root-agrees judges enters T cs a h c real (is_opening c && eqb (length (states.Root ∷ [])) 32))
open-agrees judges enters T cs a h s ss fs (inr st) l c real = stacked-agrees judges enters T cs a h s ss fs st l c real

-- each call's outcome is the verdict of the definitions
calling-agrees : Judges → Enters → (d : Desk) (cs : List Call) (c : Call) → Stands d cs → Real c
    → Agrees (sheets d.tables) (trace start cs) (places_after start cs) c (rest (stack d.places)) (calling d c)
calling-agrees judges enters d cs c st real = go d.places.depth refl
  where
    go : (n : ℕ) → d.places.depth ≡ n → Agrees (sheets d.tables) (trace start cs) (places_after start cs) c (rest (stack d.places)) (calling d c)
    go zero e =
        let none_open : places_after start cs ≡ [] = subst (λ n. Open (nodes_of (trace start cs)) (levels d.places.table n) (places_after start cs)) e st.opens in
        rw e (rw none_open)
    go (suc n) e =
        let here = subst (λ n. Open (nodes_of (trace start cs)) (levels d.places.table n) (places_after start cs)) e st.opens in
        let below : suc n - 1 ≡ n = omega arith in
        let some-open = ne_eqb (suc n) 0 (λ z. omega arith) in
        rw (e, some-open, top, below, ← ap suc (length-levels d.places.table n))
        (open-agrees judges enters (sheets d.tables) cs st.accepted st.holds (get_or d.places.table n (waiting states.Root)).state (levels d.places.table n) (places_after start cs) here (omega (arith, length-levels d.places.table n, st.depth)) c real)

-- ---- one call more

-- an accepted list with one call more
accepted-more : (sizes : Sizes) (done cs : List Call) (c : Call) → AcceptedAfter sizes done cs → Real c → verdict sizes (done ++ cs) c ≡ Ok tt → AcceptedAfter sizes done (cs ++ c ∷ [])
accepted-more sizes done [] c a real e = (real, rw append-nil at e, tt)
accepted-more sizes done (x ∷ cs) c a real e = (a.0, a.1, accepted-more sizes (done ++ x ∷ []) cs c a.2 real (rw append_assoc e))

-- what a call did, where its outcome is the verdict of the definitions
told : (old new : Desk) (cs : List Call) (c : Call) (r : Result (Unit {0}) Refusal) (o : Outcome) → Stands old cs → Real c
    → Agrees (sheets old.tables) (trace start cs) (places_after start cs) c (rest (stack old.places)) o → Did old new r o → Told old new cs c r
told old new cs c r (declined e) st real a did = record { told = did.0 ∙ sym a; refused = λ _ _. did.1; taken = λ ok. cc; sizes = ap (λ (d : Desk). sizes_of (sheets d.tables)) did.1 }
told old new cs c r (moved s T opened) st real a did =
    record {
      told = did.0 ∙ sym a.accepted;
      refused = λ e bad. cc;
      taken = λ _.
          let t = accepted-runs (sizes_of (sheets old.tables)) cs c (accepted-held (sizes_of (sheets old.tables)) cs st.accepted).runs a.accepted in
          let traced : trace start (cs ++ c ∷ []) ≡ trace start cs ++ a.left = cc in
          let onto : places_after start (cs ++ c ∷ []) ≡ a.onto = cc in
          record {
            accepted = subst (λ sizes. Accepted sizes (cs ++ c ∷ [])) (sym (ap sizes_of did.1 ∙ a.sizes)) (accepted-more (sizes_of (sheets old.tables)) [] cs c st.accepted real a.accepted);
            holds = rw (did.1, traced) a.holds;
            opens = rw (did.2, traced, onto) a.opened;
            depth = did.3;
            places = did.4 ∙ st.places;
          };
      sizes = ap sizes_of did.1 ∙ a.sizes;
    }

-- a call tells the verdict of the definitions; refused, the writer is as it was; accepted, it stands for the list with this call added
pub telling : Judges → Enters → (old new : Desk) (cs : List Call) (c : Call) (r : Result (Unit {0}) Refusal) → Stands old cs → Real c → Did old new r (calling old c) → Told old new cs c r
telling judges enters old new cs c r st real did = told old new cs c r (calling old c) st real (calling-agrees judges enters old cs c st real) did

-- a writer that stands for some list still does so after a call
pub kept : Judges → Enters → (old new : Desk) (c : Call) (r : Result (Unit {0}) Refusal) → Real c → Did old new r (calling old c)
    → ∥ ((cs : List Call) × Stands old cs) ∥₁ → ∥ ((cs : List Call) × Stands new cs) ∥₁
kept judges enters old new c r real did h = ∥∥₁_elim h ∥∥₁_prop (λ s. go s.0 s.1 r refl)
  where
    go : (cs : List Call) → Stands old cs → (x : Result (Unit {0}) Refusal) → r ≡ x → ∥ ((cs : List Call) × Stands new cs) ∥₁
    go cs st (Ok tt) is = ∣ (cs ++ c ∷ [], (telling judges enters old new cs c r st real did).taken is) ∣₁
    go cs st (Err e) is = ∣ (cs, subst (λ d. Stands d cs) (sym ((telling judges enters old new cs c r st real did).refused e is)) st) ∣₁

-- no place is open exactly where none is for the definitions
pub open_done : (d : Desk) (cs : List Call) → Stands d cs → (d.places.depth ≡ 0 ↔ places_after start cs ≡ [])
open_done d cs st = (λ e. subst (λ n. Open (nodes_of (trace start cs)) (levels d.places.table n) (places_after start cs)) e st.opens, λ e. go d.places.depth e st.opens)
  where
    go : (n : ℕ) → places_after start cs ≡ [] → Open (nodes_of (trace start cs)) (levels d.places.table n) (places_after start cs) → n ≡ 0
    go zero e o = refl
    go (suc n) e (inl o) = cc
    go (suc n) e (inr o) = absurd (rw e at o)
