-- What an accepted list of calls leaves is sound, and within the tables.
use Rattle.std.proofs.Common.{◌≡◌, ◌+◌, ◌≤◌, ltb, ◌≢◌, List, [], ◌∷◌, ◌++◌, Ok, refl, subst, inl, inr, arith}
use Rattle.std.proofs.lemmas.List.{append-nil, append_assoc}
use Rattle.std.proofs.lemmas.Bool.{ltb-false}
use Rattle.document.specs.declared.refusals.Refusal.TheVariants as refusals
use Rattle.document.specs.Calls.{Value, Call, val, end}
use Rattle.document.specs.Nodes.{Path}
use Rattle.document.specs.Entries.{Entry, at}
use Rattle.document.specs.Places.{start, Runs}
use Rattle.document.specs.Trace.{trace, places_after}
use Rattle.document.specs.Tables.{cells_of, records_of, letters_of, usable_nodes, usable_cells, usable_text}
use Rattle.document.specs.Records.{nodes_of, times}
use Rattle.document.specs.Verdict.{Sizes, any_of, clash, too_long, high_index, ill_formed, weighed, verdict, AcceptedAfter, Accepted}
use Rattle.document.proofs.Sound.{Sound}
use Rattle.document.proofs.Accepting.{passed, accepted-runs, accepted-held, Leaving, turn-leaves}
use Rattle.document.proofs.Allotting.{visited}

-- ---- letters

-- An accepted value keeps the letters within the text table.
pub letters-weighed : (sizes : Sizes) (ts es : List Entry) (v : Value) → weighed sizes ts v es ≡ Ok tt → letters_of (ts ++ es) ≤ usable_text sizes.text
letters-weighed sizes ts es v e =
    let kinds = passed (any_of (clash ts) es) refusals.Kind _ e in
    let index = passed (high_index v) refusals.Index _ kinds.1 in
    let nodes = passed (ltb (usable_nodes sizes.nodes) (1 + records_of (ts ++ es))) refusals.Nodes _ index.1 in
    let cells = passed (ltb (usable_cells sizes.cells) (cells_of (ts ++ es))) refusals.Cells _ nodes.1 in
    let sums = passed (any_of (too_long (ts ++ es)) es) refusals.Sum _ cells.1 in
    let texts = passed (ill_formed v) refusals.Text _ sums.1 in
    ltb-false _ _ (passed (ltb (usable_text sizes.text) (letters_of (ts ++ es))) refusals.TextTable (Ok tt) texts.1).0

-- One more accepted call keeps them there.
letters-on : (sizes : Sizes) (done : List Call) (c : Call) → Runs start done → letters_of (trace start done) ≤ usable_text sizes.text → verdict sizes done c ≡ Ok tt
    → Runs start (done ++ c ∷ []) × (letters_of (trace start (done ++ c ∷ [])) ≤ usable_text sizes.text)
letters-on sizes done (val v) r h e =
    let t = accepted-runs sizes done (val v) r e in
    (t.runs, rw t.traced (letters-weighed sizes (trace start done) t.left v (rw t.turned at e)))
letters-on sizes done end r h e =
    let t = accepted-runs sizes done end r e in
    let l = subst (Leaving end) t.turned (turn-leaves (places_after start done) end) in
    (t.runs, rw (t.traced, l, append-nil) h)

-- So do any number of them.
letters-all : (sizes : Sizes) (cs done : List Call) → Runs start done → letters_of (trace start done) ≤ usable_text sizes.text → AcceptedAfter sizes done cs → letters_of (trace start (done ++ cs)) ≤ usable_text sizes.text
letters-all sizes [] done r h a = rw append-nil h
letters-all sizes (c ∷ cs) done r h a =
    let k = letters-on sizes done c r h a.1 in
    rw append_assoc at (letters-all sizes cs (done ++ c ∷ []) k.0 k.1 a.2)

-- ---- all of it

-- The entries are sound at each node, each node with a value has a record, and the tables have room for them.
pub record Bounded (sizes : Sizes) (ts : List Entry) : Type 0 where
  pub sound : (q : Path) → Sound (at q ts)
  pub seen : (q : Path) → at q ts ≢ [] → times q (nodes_of ts) ≡ 1
  pub records : records_of ts + 2 ≤ 65536
  pub cells : cells_of ts ≤ usable_cells sizes.cells
  pub letters : letters_of ts ≤ usable_text sizes.text

-- What an accepted list leaves is so.
pub accepted-bounded : (sizes : Sizes) (cs : List Call) → Accepted sizes cs → Bounded sizes (trace start cs)
accepted-bounded sizes cs a =
    let h = accepted-held sizes cs a in
    let w : (records_of (trace start cs) + 2 ≤ 65536) × (cells_of (trace start cs) ≤ usable_cells sizes.cells) =
    elim h.within [ inl empty ↦ rw empty (omega arith, omega arith) | inr w ↦ (omega (arith, w.0), w.1) ] in
    record { sound = h.sound; seen = visited sizes cs a; records = w.0; cells = w.1; letters = letters-all sizes cs [] tt (omega arith) a }

-- A node without a record has no value.
pub unseen : (sizes : Sizes) (ts : List Entry) → Bounded sizes ts → (q : Path) → times q (nodes_of ts) ≡ 0 → at q ts ≡ []
unseen sizes ts b q z = go (at q ts) (b.seen q)
  where
    go : (vs : List Value) → (vs ≢ [] → times q (nodes_of ts) ≡ 1) → vs ≡ []
    go [] k = refl
    go (v ∷ vs) k = absurd (omega (arith, k (λ e. cc)))
