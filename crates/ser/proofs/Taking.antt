-- A value that the tables take is entered in them, and opens its place.
use Rattle.std.proofs.Common.{◌≡◌, ℕ, zero, suc, ◌+◌, ◌<◌, ◌≤◌, Bool, true, false, cond, eqb, ◌≢◌, List, [], ◌∷◌, ◌++◌, length, get_or, Ok, sym, refl, ap, ◌∙◌, subst, inl, inr, ⊎_elim, append_assoc, arith, length-append}
use Rattle.std.specs.declared.option.Option.TheVariants as options
use Rattle.std.proofs.lemmas.List.{append-nil}
use Rattle.std.proofs.lemmas.Bool.{or_parts, ne_eqb}
use Rattle.document.specs.declared.refusals.Refusal.TheVariants as refusals
use Rattle.document.specs.Calls.{Value, scalar, text, unit, none, some, variant, seq, map, tuple, kind, ENUM, val}
use Rattle.document.specs.Nodes.{Path, root, ◌▹◌, elem, key, alt, same}
use Rattle.document.specs.Entries.{Entry, entry, leaves, at}
use Rattle.document.specs.Places.{start, opens}
use Rattle.document.specs.Trace.{trace}
use Rattle.document.specs.Tables.{takes, cells_of, usable_cells}
use Rattle.document.specs.Records.{nodes_of, brought, times, added}
use Rattle.document.specs.Verdict.{any_of, strange, clash, weighed}
use Rattle.document.proofs.Paths.{same_true}
use Rattle.document.proofs.Accepting.{passed, same_kind, value-kept}
use Rattle.document.proofs.Between.{at_on, at_off}
use Rattle.document.proofs.Allotting.{once, length-nodes, times-append}
use Rattle.document.proofs.Growth.{nodes-snoc, cells-more, letters-more}
use Rattle.nodes.specs.declared.places.State.TheVariants as states
use Rattle.nodes.specs.Homes.{Home}
use Rattle.nodes.specs.Placed.{Opens}
use Rattle.nodes.proofs.Homes.{home-times}
use Rattle.nodes.proofs.Homes.{home-more}
use Rattle.nodes.proofs.Families.{field_at}
use Rattle.ser.specs.Brings.{index_of}
use Rattle.ser.specs.Moves.{Sheets, node, branch_in, put, put_child}
use Rattle.ser.specs.Tables.{sizes_of}
use Rattle.ser.specs.Steps.{entered_at}
use Rattle.ser.specs.Held.{Holds}
use Rattle.ser.proofs.Found.{child-found}
use Rattle.ser.proofs.Bounded.{Bounded, accepted-bounded, letters-weighed}
use Rattle.ser.proofs.Judging.{judges, enums}
use Rattle.ser.proofs.Plans.{Entered, Enters}
use Rattle.ser.proofs.Entering.{Found}
use Rattle.ser.proofs.Blocks.{together}
use Rattle.ser.proofs.Putting.{Room, Put, puts}

-- a value with an index is an ENUM's
index-enum : (v : Value) (i : ℕ) → index_of v ≡ options.Some i → kind v ≡ ENUM
index-enum (scalar k b) i e = cc
index-enum (text bs) i e = cc
index-enum unit i e = cc
index-enum none i e = refl
index-enum some i e = refl
index-enum (variant j) i e = refl
index-enum (seq n) i e = cc
index-enum (map n) i e = cc
index-enum (tuple n) i e = cc

-- the child of its index, as the tables have it
found_in : (T : Sheets) (ts : List Entry) → Bounded (sizes_of T) ts → Holds T ts → (r : ℕ) (p : Path) → Home (nodes_of ts) r p → (v : Value) → strange (at p ts) v ≡ false → Found (nodes_of ts) (branch_in T r (index_of v)) p v
found_in T ts B H r p home v s i e =
    ⊎_elim (λ none. inl (none.0, ap (branch_in T r) e ∙ none.1)) (λ there. inr (subst (λ k. Home (nodes_of ts) k (p ▹ alt i)) (sym (ap (branch_in T r) e)) there))
    (child-found T ts H r p home (enums (at p ts) v (B.sound p).one-kind (index-enum v i e) s) i)

-- each node with a value has a record still
seen_more : (ts : List Entry) (r : ℕ) (p : Path) → Home (nodes_of ts) r p → (v : Value) → ((q : Path) → at q ts ≢ [] → times q (nodes_of ts) ≡ 1)
    → (q : Path) → at q (ts ++ entry p v ∷ []) ≢ [] → times q (nodes_of (ts ++ entry p v ∷ [])) ≡ 1
seen_more ts r p home v seen q has = go (same p q) refl
  where
    grown : times q (nodes_of (ts ++ entry p v ∷ [])) ≡ times q (nodes_of ts) + times q (added ts (entry p v))
    grown = ap (times q) (nodes-snoc ts (entry p v)) ∙ times-append q (nodes_of ts) (added ts (entry p v))

    go : (b : Bool) → same p q ≡ b → times q (nodes_of (ts ++ entry p v ∷ [])) ≡ 1
    go true e = omega (arith, grown, once q (ts ++ entry p v ∷ []), subst (λ x. 1 ≤ times x (nodes_of ts)) (same_true p q e) (home-times (nodes_of ts) r p home))
    go false e = omega (arith, grown, once q (ts ++ entry p v ∷ []), seen q (λ n. has (at_off p q v ts e ∙ n)))

-- the children of a node with a value of this kind, once the value is in
family-of : (U : Sheets) (ts : List Entry) (r : ℕ) (p : Path) (v : Value) → strange (at p ts) v ≡ false → Holds U (ts ++ entry p v ∷ []) → Home (nodes_of (ts ++ entry p v ∷ [])) r p
    → (j : ℕ) → j < takes (kind v) → Home (nodes_of (ts ++ entry p v ∷ [])) ((node U r).children.first + j) (get_or (brought p (kind v)) j root)
family-of U ts r p v s H home j h = go (at p ts) refl
  where
    go : (vs : List Value) → at p ts ≡ vs → Home (nodes_of (ts ++ entry p v ∷ [])) ((node U r).children.first + j) (get_or (brought p (kind v)) j root)
    go [] e = together U (ts ++ entry p v ∷ []) H r p home v [] (at_on p v ts ∙ ap (λ vs. vs ++ v ∷ []) e) j h
    go (u ∷ us) e =
        let k : kind v ≡ kind u = same_kind u v us (ap (λ vs. strange vs v) (sym e) ∙ s) in
        subst (λ K. Home (nodes_of (ts ++ entry p v ∷ [])) ((node U r).children.first + j) (get_or (brought p K) j root)) (sym k)
        (together U (ts ++ entry p v ∷ []) H r p home u (us ++ v ∷ []) (at_on p v ts ∙ ap (λ vs. vs ++ v ∷ []) e) j (subst (λ K. j < takes K) k h))

-- ---- a value by what it leaves

module _ (T : Sheets) (ts : List Entry) (B : Bounded (sizes_of T) ts) (H : Holds T ts) (r : ℕ) (p : Path) (home : Home (nodes_of ts) r p) where
  -- what is known of a value that the tables take
  record Taken (v : Value) : Type 0 where
    kinds : any_of (clash ts) (leaves p v) ≡ false
    room : Room T (ts ++ leaves p v)

  -- the tables after a value that leaves one entry
  plain : (v : Value) → leaves p v ≡ entry p v ∷ [] → Taken v → (strange (at p ts) v ≡ false) × Put T ts r (branch_in T r (index_of v)) p v
  plain v one t =
      let s : strange (at p ts) v ≡ false = (or_parts (strange (at p ts) v) false (subst (λ es. any_of (clash ts) es ≡ false) one t.kinds)).0 in
      (s, puts T ts H r p home v B.seen (branch_in T r (index_of v)) (found_in T ts B H r p home v s) (subst (λ es. Room T (ts ++ es)) one t.room))

  -- where its node's record is then
  home-then : (v : Value) → Home (nodes_of (ts ++ entry p v ∷ [])) r p
  home-then v = subst (λ ns. Home ns r p) (sym (nodes-snoc ts (entry p v))) (home-more (nodes_of ts) (added ts (entry p v)) r p home)

  -- a record that is counted from the first
  at_first : (v : Value) (k : ℕ) (q : Path) → Home (nodes_of (ts ++ entry p v ∷ [])) (k + 0) q → Home (nodes_of (ts ++ entry p v ∷ [])) k q
  at_first v k q h = let e : k + 0 ≡ k = omega arith in subst (λ n. Home (nodes_of (ts ++ entry p v ∷ [])) n q) e h

  takes-it : (v : Value) → Taken v → Entered T ts r p v
  unfolding entered_at
  takes-it (scalar s b) t = let P = (plain (scalar s b) refl t).1 in record { holds = P.holds; sizes = P.sizes; opened = tt }
  takes-it (text bs) t = let P = (plain (text bs) refl t).1 in record { holds = P.holds; sizes = P.sizes; opened = tt }
  takes-it unit t = let P = (plain unit refl t).1 in record { holds = P.holds; sizes = P.sizes; opened = tt }
  takes-it some t = let P = (plain some refl t).1 in record { holds = P.holds; sizes = P.sizes; opened = (put_child r (branch_in T r (options.Some 1)) (val some) T, refl, P.child 1 refl) }
  takes-it (variant i) t = let P = (plain (variant i) refl t).1 in record { holds = P.holds; sizes = P.sizes; opened = (put_child r (branch_in T r (options.Some i)) (val (variant i)) T, refl, P.child i refl) }
  takes-it (seq n) t =
      let w = plain (seq n) refl t in
      let P = w.1 in
      let first = (node (put r 0 (val (seq n)) T) r).children.first in
      record { holds = P.holds; sizes = P.sizes; opened = (first, refl, at_first (seq n) first (p ▹ elem) (family-of _ ts r p (seq n) w.0 P.holds (home-then (seq n)) 0 (omega arith))) }
  takes-it (map n) t =
      let w = plain (map n) refl t in
      let P = w.1 in
      let first = (node (put r 0 (val (map n)) T) r).children.first in
      record { holds = P.holds; sizes = P.sizes; opened = (first, refl, at_first (map n) first (p ▹ key) (family-of _ ts r p (map n) w.0 P.holds (home-then (map n)) 0 (omega arith)), family-of _ ts r p (map n) w.0 P.holds (home-then (map n)) 1 (omega arith)) }
  takes-it (tuple zero) t =
      let P = (plain (tuple 0) refl t).1 in
      record { holds = P.holds; sizes = P.sizes; opened = ((node (put r 0 (val (tuple 0)) T) r).children.first, refl, λ j h. absurd (omega arith)) }
  takes-it (tuple (suc zero)) t = record { holds = subst (Holds T) (sym (append-nil ts)) H; sizes = refl; opened = (r, refl, subst (λ ss. Home (nodes_of ss) r p) (sym (append-nil ts)) home) }
  takes-it (tuple (suc (suc n))) t =
      let v = tuple (suc (suc n)) in
      let w = plain (tuple (suc (suc n))) refl t in
      let X = put r 0 (val (tuple (suc (suc n)))) T in
      let z : eqb (suc (suc n)) 1 ≡ false = ne_eqb (suc (suc n)) 1 (λ e. omega arith) in
      record {
        holds = subst (λ b. Holds (cond b T (put r 0 (val (tuple (suc (suc n)))) T)) (ts ++ entry p (tuple (suc (suc n))) ∷ [])) (sym z) w.1.holds;
        sizes = subst (λ b. sizes_of (cond b T (put r 0 (val (tuple (suc (suc n)))) T)) ≡ sizes_of T) (sym z) w.1.sizes;
        opened = subst (λ b. Opens (nodes_of (ts ++ entry p (tuple (suc (suc n))) ∷ [])) (options.Some (cond b (states.Lone r 1) (states.Fields (node (cond b T (put r 0 (val (tuple (suc (suc n)))) T)) r).children.first (suc (suc n))))) (opens p (tuple (suc (suc n))))) (sym z) (
          (node (put r 0 (val (tuple (suc (suc n)))) T) r).children.first,
          refl,
          λ j h. subst (Home (nodes_of (ts ++ entry p (tuple (suc (suc n))) ∷ [])) ((node (put r 0 (val (tuple (suc (suc n)))) T) r).children.first + j)) (field_at p 0 (suc (suc n)) j h) (family-of (put r 0 (val (tuple (suc (suc n)))) T) ts r p (tuple (suc (suc n))) w.0 w.1.holds (home-then (tuple (suc (suc n)))) j h),
        );
      }
  takes-it none t =
      let s = (or_parts (strange (at p ts) none) _ t.kinds).0 in
      let k = branch_in T r (options.Some 0) in
      let e = entry p none in
      let u = entry (p ▹ alt 0) unit in
      let two = append_assoc ts (e ∷ []) (u ∷ []) in
      let whole : Room T ((ts ++ e ∷ []) ++ u ∷ []) = subst (Room T) (sym two) t.room in
      let grown = ap length (nodes-snoc (ts ++ e ∷ []) u) ∙ length-append (nodes_of (ts ++ e ∷ [])) (added (ts ++ e ∷ []) u) in
      let half : Room T (ts ++ e ∷ []) = record {
        nodes = omega (arith, grown, whole.nodes);
        cells = omega (arith, cells-more (ts ++ e ∷ []) (u ∷ []), whole.cells);
        letters = omega (arith, letters-more (ts ++ e ∷ []) (u ∷ []), whole.letters);
      } in
      let P = puts T ts H r p home none B.seen k (found_in T ts B H r p home none s) half in
      let lengths = P.sizes in
      let full : Room (put r k (val none) T) ((ts ++ e ∷ []) ++ u ∷ []) = record {
        nodes = omega (arith, ap (λ z. z.nodes) lengths, whole.nodes);
        cells = subst (λ n. cells_of ((ts ++ e ∷ []) ++ u ∷ []) ≤ usable_cells n) (sym (ap (λ z. z.cells) lengths)) whole.cells;
        letters = omega (arith, ap (λ z. z.text) lengths, whole.letters);
      } in
      let Q = puts (put r k (val none) T) (ts ++ e ∷ []) P.holds (put_child r k (val none) T) (p ▹ alt 0) (P.child 0 refl) unit (seen_more ts r p home none B.seen) 0 (λ i z. cc) full in
      record { holds = subst (Holds (put (put_child r k (val none) T) 0 (val unit) (put r k (val none) T))) two Q.holds; sizes = Q.sizes ∙ lengths; opened = tt }

-- every value that the tables take
pub enters : Enters
enters T cs a H r p home v real ok =
    let ts = trace start cs in
    let B = accepted-bounded (sizes_of T) cs a in
    let W : weighed (sizes_of T) (trace start cs) v (leaves p v) ≡ Ok tt = sym (judges T cs a H r p home v) ∙ ok in
    let kept = (value-kept (sizes_of T) ts (leaves p v) v p refl real W B.sound).1 in
    takes-it T ts B H r p home v (record {
      kinds = (passed (any_of (clash (trace start cs)) (leaves p v)) refusals.Kind _ W).0;
      room = record {
        nodes = omega (arith, length-nodes (ts ++ leaves p v), kept.0);
        cells = kept.1;
        letters = omega (arith, letters-weighed (sizes_of T) ts (leaves p v) v W);
      };
    })
