-- An accepted list of calls is sane: each verdict takes its call, and keeps every node sound and the tables within their sizes.
use Rattle.std.proofs.Common.{◌≡◌, ℕ, zero, suc, ◌+◌, ◌-◌, ◌<◌, ◌≤◌, Bool, true, false, cond, eqb, leb, ◌⊎◌, List, [], ◌∷◌, ◌++◌, length, get_or, Ok, Err, Result, sym, refl, ap, ◌∙◌, subst, inl, inr, arith, lit<}
use Rattle.std.specs.List.{AllByRecursion}
use Rattle.std.proofs.lemmas.List.{append-nil, append_assoc, get_or_past}
use Rattle.std.proofs.ByRecursion.{All-append, All-weaker}
use Rattle.std.proofs.lemmas.Bool.{or_parts, not-false, eqb-true, ltb-false, leb-false, cond_both}
use Rattle.utf8.specs.Passes.{passes}
use Rattle.document.specs.declared.refusals.Refusal.{Refusal}
use Rattle.document.specs.declared.refusals.Refusal.TheVariants.{Depth, Count}
use Rattle.document.specs.declared.scalars.Scalar.TheVariants as scalars
use Rattle.document.specs.Calls.{total, extent, Kind, SCALAR, TEXT, SEQ, MAP, ENUM, UNIT, TUPLE, Value, scalar, text, unit, none, some, variant, seq, map, tuple, kind, Call, val, end}
use Rattle.document.specs.Nodes.{Path, ◌▹◌, alt, same}
use Rattle.document.specs.Entries.{Entry, entry, leaves, at}
use Rattle.document.specs.Places.{Place, Next, nowhere, there, next, full, opens, settle, too_many, Turn, stays, goes, tell, turn, start, Onward, Complete, Runs}
use Rattle.document.specs.Trace.{gathered, trace, went, places_after}
use Rattle.document.specs.Columns.{limit}
use Rattle.document.specs.Tables.{cells_of, records_of, usable_nodes, usable_cells}
use Rattle.document.specs.Verdict.{Sizes, kind_number, any_of, strange, clash, too_long, high_index, ill_formed, weighed, judged, verdict, Real, AcceptedAfter, Accepted, Done}
use Rattle.document.proofs.Paths.{same_self, same_true, not-child, at-append}
use Rattle.document.proofs.Sound.{Fits, OneKind, Sound, Sane}

-- ---- lists that run

-- from one fact after a turn that was taken to another
onward : (t : Turn) (P Q : List Place → Type 0) → (P (went t) → Q (went t)) → Onward t P → Onward t Q
onward (stays n) P Q f k = absurd k
onward (goes es gs) P Q f k = f k

-- the places after two lists are those after the second, from the places after the first on
pub places-append : (fs : List Place) (ds cs : List Call) → places_after fs (ds ++ cs) ≡ places_after (places_after fs ds) cs
places-append fs [] cs = refl
places-append fs (d ∷ ds) cs = places-append (went (turn fs d)) ds cs

-- what two lists leave, the first of which runs
pub trace-append : (fs : List Place) (ds cs : List Call) → Runs fs ds → trace fs (ds ++ cs) ≡ trace fs ds ++ trace (places_after fs ds) cs
trace-append fs [] cs r = refl
trace-append fs (d ∷ ds) cs r = go (turn fs d) r (trace-append (went (turn fs d)) ds cs)
  where
    go : (t : Turn) → Onward t (λ gs. Runs gs ds)
        → (Runs (went t) ds → trace (went t) (ds ++ cs) ≡ trace (went t) ds ++ trace (places_after (went t) ds) cs)
        → gathered t (λ gs. trace gs (ds ++ cs)) ≡ gathered t (λ gs. trace gs ds) ++ trace (places_after (went t) ds) cs
    go (stays n) k ih = absurd k
    go (goes es gs) k ih = rw (ih k) (sym (append_assoc es (trace gs ds) (trace (places_after gs ds) cs)))

-- two lists run if the second runs where the first ends
pub runs_append : (fs : List Place) (ds cs : List Call) → Runs fs ds → Runs (places_after fs ds) cs → Runs fs (ds ++ cs)
runs_append fs [] cs r s = s
runs_append fs (d ∷ ds) cs r s = onward (turn fs d) (λ gs. Runs gs ds) (λ gs. Runs gs (ds ++ cs)) (λ k. runs_append (went (turn fs d)) ds cs k s) r

-- a list that runs until no place is open is complete
pub runs-complete : (fs : List Place) (cs : List Call) → Runs fs cs → places_after fs cs ≡ [] → Complete fs cs
runs-complete fs [] r e = e
runs-complete fs (c ∷ cs) r e = onward (turn fs c) (λ gs. Runs gs cs) (λ gs. Complete gs cs) (λ k. runs-complete (went (turn fs c)) cs k e) r

-- ---- one accepted call

-- a call that is taken after the calls `done`: what it leaves, the places after it, and so the trace and the places of the longer list
pub record Taken (done : List Call) (c : Call) : Type 0 where
  pub left : List Entry
  pub onto : List Place
  pub turned : turn (places_after start done) c ≡ goes left onto
  pub traced : trace start (done ++ c ∷ []) ≡ trace start done ++ left
  pub moved : places_after start (done ++ c ∷ []) ≡ onto
  pub runs : Runs start (done ++ c ∷ [])

-- a call that is accepted after calls that run is taken
pub accepted-runs : (sizes : Sizes) (done : List Call) (c : Call) → Runs start done → verdict sizes done c ≡ Ok tt → Taken done c
accepted-runs sizes done c r e = go (turn (places_after start done) c) refl e
  where
    go : (t : Turn) → turn (places_after start done) c ≡ t → judged sizes (trace start done) c t ≡ Ok tt → Taken done c
    go (stays n) is e = cc
    go (goes es gs) is e =
        record {
          left = es;
          onto = gs;
          turned = is;
          traced = trace-append start done (c ∷ []) r ∙ rw (is, append-nil);
          moved = places-append start done (c ∷ []) ∙ ap went is;
          runs = runs_append start done (c ∷ []) r (rw is tt);
        }

-- the first test of an acceptance does not hold, and the others accept
pub passed : (b : Bool) (r : Refusal) (more : Result (Unit {0}) Refusal) → cond b (Err r) more ≡ Ok tt → (b ≡ false) × (more ≡ Ok tt)
passed true r more e = cc
passed false r more e = (refl, e)

-- ---- kinds by number

-- the kinds with the numbers below 15 ..
abbrev pub plain : List Kind
plain =
    SCALAR scalars.Bool ∷ SCALAR scalars.U8 ∷ SCALAR scalars.U16 ∷ SCALAR scalars.U32 ∷ SCALAR scalars.U64
    ∷ SCALAR scalars.I8 ∷ SCALAR scalars.I16 ∷ SCALAR scalars.I32 ∷ SCALAR scalars.I64 ∷ SCALAR scalars.F32
    ∷ TEXT ∷ SEQ ∷ MAP ∷ ENUM ∷ UNIT ∷ []

-- .. and the kind of any number
abbrev pub kind_at : ℕ → Kind
kind_at n = get_or plain n (TUPLE (n - 15))

-- a kind is that of its number
pub kind_at-number : (k : Kind) → kind_at (kind_number k) ≡ k
kind_at-number = elim [
  | SCALAR scalars.Bool ↦ refl
  | SCALAR scalars.U8 ↦ refl
  | SCALAR scalars.U16 ↦ refl
  | SCALAR scalars.U32 ↦ refl
  | SCALAR scalars.U64 ↦ refl
  | SCALAR scalars.I8 ↦ refl
  | SCALAR scalars.I16 ↦ refl
  | SCALAR scalars.I32 ↦ refl
  | SCALAR scalars.I64 ↦ refl
  | SCALAR scalars.F32 ↦ refl
  | TEXT ↦ refl
  | SEQ ↦ refl
  | MAP ↦ refl
  | ENUM ↦ refl
  | UNIT ↦ refl
  | TUPLE n ↦ let e : (15 + n) - 15 ≡ n = omega arith in get_or_past plain (15 + n) (TUPLE ((15 + n) - 15)) (omega arith) ∙ ap {B = Kind} TUPLE e
]

-- two kinds with one number are one
pub kind-number-injective : (J K : Kind) → kind_number J ≡ kind_number K → J ≡ K
kind-number-injective J K e = sym (kind_at-number J) ∙ ap kind_at e ∙ kind_at-number K

-- a value that is not strange after the first is of its kind
pub same_kind : (u v : Value) (us : List Value) → strange (u ∷ us) v ≡ false → kind v ≡ kind u
same_kind u v us e = sym (kind-number-injective (kind u) (kind v) (eqb-true (kind_number (kind u)) (kind_number (kind v)) (not-false (eqb (kind_number (kind u)) (kind_number (kind v))) e)))

-- ---- the values at one node

-- a test that holds of none of the entries holds of no value at a node, as an entry there
none-at : (test : Entry → Bool) (q : Path) (es : List Entry) → any_of test es ≡ false → AllByRecursion (λ v. test (entry q v) ≡ false) (at q es)
none-at test q [] h = tt
none-at test q (e ∷ es) h =
    let k = or_parts (test e) (any_of test es) h in
    cond_both (same e.node q) (e.said ∷ at q es) (at q es) (AllByRecursion (λ v. test (entry q v) ≡ false))
    (λ is. (subst (λ (p : Path). test (entry p e.said) ≡ false) (same_true e.node q is) k.0, none-at test q es k.1))
    (λ _. none-at test q es k.1)

-- more values of one kind, none of them strange
one-kind-append : (us vs : List Value) → OneKind us → OneKind vs → AllByRecursion (λ v. strange us v ≡ false) vs → OneKind (us ++ vs)
one-kind-append [] vs h k s = k
one-kind-append (u ∷ us) vs h k s = All-append (λ v. kind v ≡ kind u) us vs h (All-weaker (λ v. strange (u ∷ us) v ≡ false) (λ v. kind v ≡ kind u) (λ v. same_kind u v us) vs s)

-- values that are short of the limit as they were, or were found so with any that is new
short-append : (us vs ws : List Value) → ws ≡ us ++ vs → total extent us < limit → AllByRecursion (λ v. leb limit (total extent ws) ≡ false) vs → total extent ws < limit
short-append us [] ws is h s = rw (is, append-nil) h
short-append us (v ∷ vs) ws is h s = leb-false limit (total extent ws) s.0

-- values of one kind, each of which fits
abbrev pub Fitting : List Value → Type 0
Fitting vs = OneKind vs × AllByRecursion Fits vs

-- entries that pass the tests keep a node sound
sound-append : (ts es : List Entry) (q : Path) → Sound (at q ts) → Fitting (at q es) → any_of (clash ts) es ≡ false → any_of (too_long (ts ++ es)) es ≡ false → Sound (at q (ts ++ es))
sound-append ts es q h k c l =
    record {
      one-kind = rw at-append (one-kind-append (at q ts) (at q es) h.one-kind k.0 (none-at (clash ts) q es c));
      fits = rw at-append (All-append Fits (at q ts) (at q es) h.fits k.1);
      short-of = short-append (at q ts) (at q es) (at q (ts ++ es)) (at-append q ts es) h.short-of (none-at (too_long (ts ++ es)) q es l);
    }

-- ---- what a call leaves

-- a value that fits, or nothing
lone-value : (b : Bool) (v : Value) → Fits v → Fitting (cond b (v ∷ []) [])
lone-value true v h = (tt, (h, tt))
lone-value false v h = (tt, tt)

-- at each node a value call leaves one value at most, which fits
pub leaves-fit : (q p : Path) (v : Value) → Real (val v) → high_index v ≡ false → ill_formed v ≡ false → Fitting (at q (leaves p v))
leaves-fit q p (scalar k b) r i f = lone-value (same p q) (scalar k b) r
leaves-fit q p (text bs) r i f = lone-value (same p q) (text bs) (not-false (passes bs) f)
leaves-fit q p unit r i f = lone-value (same p q) unit tt
leaves-fit q p none r i f = go (same p q) refl (same (p ▹ alt 0) q) refl
  where
    go : (a : Bool) → same p q ≡ a → (b : Bool) → same (p ▹ alt 0) q ≡ b → Fitting (cond a (none ∷ cond b (unit ∷ []) []) (cond b (unit ∷ []) []))
    go true m true n = cc (same_true p q m, same_true (p ▹ alt 0) q n, same_self p, not-child p (alt 0))
    go true m false n = (tt, (tt, tt))
    go false m true n = (tt, (tt, tt))
    go false m false n = (tt, tt)
leaves-fit q p some r i f = lone-value (same p q) some tt
leaves-fit q p (variant k) r i f = lone-value (same p q) (variant k) (ltb-false 255 k i)
leaves-fit q p (seq n) r i f = lone-value (same p q) (seq n) tt
leaves-fit q p (map n) r i f = lone-value (same p q) (map n) tt
leaves-fit q p (tuple zero) r i f = lone-value (same p q) (tuple 0) tt
leaves-fit q p (tuple (suc zero)) r i f = (tt, tt)
leaves-fit q p (tuple (suc (suc n))) r i f = lone-value (same p q) (tuple (suc (suc n))) tt

-- a turn that is taken leaves the entries of its value at some node, and an `end` leaves none
abbrev pub Leaving : Call → Turn → Type 0
Leaving c (stays r) = Unit {0}
Leaving (val v) (goes es gs) = (p : Path) × (es ≡ leaves p v)
Leaving end (goes es gs) = es ≡ []

-- every turn does so
pub turn-leaves : (fs : List Place) (c : Call) → Leaving c (turn fs c)
turn-leaves [] c = tt
turn-leaves (f ∷ fs) (val v) = go (next f)
  where
    go : (n : Next) → Leaving (val v) (tell v fs n)
    go nowhere = tt
    go (there p g) = cond_both (too_many (length (opens p v ++ g ∷ fs))) (stays Depth) (goes (leaves p v) (settle (opens p v ++ g ∷ fs))) (Leaving (val v)) (λ _. tt) (λ _. (p, refl))
turn-leaves (f ∷ fs) end = cond_both (full f) (goes [] (settle fs)) (stays Count) (Leaving end) (λ _. refl) (λ _. tt)

-- ---- accepted lists

-- what the entries take is within the tables
abbrev pub Within : Sizes → List Entry → Type 0
Within sizes ts = (1 + records_of ts ≤ usable_nodes sizes.nodes) × (cells_of ts ≤ usable_cells sizes.cells)

-- an accepted value keeps each node sound and the tables within their sizes
pub value-kept : (sizes : Sizes) (ts es : List Entry) (v : Value) (p : Path) → es ≡ leaves p v → Real (val v) → weighed sizes ts v es ≡ Ok tt → ((q : Path) → Sound (at q ts)) → ((q : Path) → Sound (at q (ts ++ es))) × Within sizes (ts ++ es)
value-kept sizes ts es v p is r e h =
    let kinds = passed _ _ _ e in
    let index = passed _ _ _ kinds.1 in
    let nodes = passed _ _ _ index.1 in
    let cells = passed _ _ _ nodes.1 in
    let sums = passed _ _ _ cells.1 in
    let texts = passed _ _ _ sums.1 in (
      (λ q. sound-append ts es q (h q) (rw is (leaves-fit q p v r index.0 texts.0)) kinds.0 sums.0),
      (ltb-false _ _ nodes.0, ltb-false _ _ cells.0),
    )

-- what holds of the calls that were accepted so far
pub record Held (sizes : Sizes) (cs : List Call) : Type 0 where
  pub runs : Runs start cs
  pub sound : (q : Path) → Sound (at q (trace start cs))
  pub within : (cs ≡ []) ⊎ Within sizes (trace start cs)

-- one more call keeps it; an `end` cannot come first
held_more : (sizes : Sizes) (done : List Call) (c : Call) → Held sizes done → Real c → verdict sizes done c ≡ Ok tt → Held sizes (done ++ c ∷ [])
held_more sizes done (val v) h r e =
    let t = accepted-runs sizes done (val v) h.runs e in
    let l = subst (Leaving (val v)) t.turned (turn-leaves (places_after start done) (val v)) in
    let k = value-kept sizes (trace start done) t.left v l.0 l.1 r (rw t.turned at e) h.sound in
    record { runs = t.runs; sound = rw t.traced k.0; within = inr (rw t.traced k.1) }
held_more sizes done end h r e =
    let t = accepted-runs sizes done end h.runs e in
    let l = subst (Leaving end) t.turned (turn-leaves (places_after start done) end) in
    let still : trace start (done ++ end ∷ []) ≡ trace start done = t.traced ∙ ap (λ es. trace start done ++ es) l ∙ append-nil (trace start done) in
    let first = λ (none_yet : done ≡ []). subst (λ (ds : List Call). verdict sizes ds end ≡ Ok tt) none_yet e in
    record { runs = t.runs; sound = rw still h.sound; within = elim h.within [ inl none_yet ↦ cc (first none_yet) | inr w ↦ inr (rw still w) ] }

-- .. and so do any number of them ..
held_all : (sizes : Sizes) (cs done : List Call) → Held sizes done → AcceptedAfter sizes done cs → Held sizes (done ++ cs)
held_all sizes [] done h a = rw append-nil h
held_all sizes (c ∷ cs) done h a = subst (Held sizes) (append_assoc done (c ∷ []) cs) (held_all sizes cs (done ++ c ∷ []) (held_more sizes done c h a.0 a.1) a.2)

-- .. hence it holds of every accepted list
pub accepted-held : (sizes : Sizes) (cs : List Call) → Accepted sizes cs → Held sizes cs
accepted-held sizes cs = held_all sizes cs [] (record { runs = tt; sound = λ q. record { one-kind = tt; fits = tt; short-of = lit< tt }; within = inl refl })

-- an accepted list at whose end no place is open is sane
pub accepted-sane : (sizes : Sizes) (cs : List Call) → Accepted sizes cs → Done cs → Sane sizes cs
accepted-sane sizes cs a d =
    let h = accepted-held sizes cs a in
    elim h.within [
      | inl empty ↦ cc (subst Done empty d)
      | inr w ↦ record { complete = runs-complete start cs h.runs d; sound = h.sound; within-nodes = w.0; within-cells = w.1 }
    ]
