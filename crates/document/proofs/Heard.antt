-- A reader over a document's bytes hears its calls.
use Rattle.std.proofs.Common.{◌≡◌, ℕ, zero, suc, ◌+◌, ◌-◌, ◌<◌, ◌≤◌, Bool, true, false, cond, not, T, List, [], ◌∷◌, ◌++◌, map as each, length, take, drop, sym, refl, ap, ◌∙◌, subst, append_assoc, append-nil, arith, length-append}
use Rattle.std.proofs.lemmas.Bool.{le-ltb, le-leb, false≢true, cond-true}
use Rattle.std.proofs.lemmas.List.{nil_from_length}
use Rattle.column.specs.Meaning.{Meaning, Lawful}
use Rattle.document.proofs.Sound.{OneKind, Sound, Sane}
use Rattle.document.specs.Bytes.{keep, firsts, bytes_of, bytes}
use Rattle.document.specs.Columns.{columns}
use Rattle.document.specs.Calls.{str, Kind, SCALAR, TEXT, SEQ, MAP, ENUM, UNIT, TUPLE, Value, scalar, text, unit, none, some, variant, seq, map, tuple, kind, cell, total, Call, val, end, extent}
use Rattle.document.specs.Entries.{Entry, entry, at, leaves}
use Rattle.document.specs.Nodes.{Path, root, ◌▹◌, Step, alt, same, demand, demands}
use Rattle.document.specs.Places.{Place, only, Next, nowhere, there, next, full, opens, settle, stays, goes, too_many, tell, start, Complete, Onward}
use Rattle.document.specs.Reader.{Store, rooted, opened, with_child, taken, letter_count, recorded, child, fresh, ready, put, found, look, oversized, respond, consult, opening, tupled, standing, scalar?, text?, option?, variant?, seq?, map?, reply, Reply, refuse, reading, begin, unread}
use Rattle.document.specs.Replay.{replay, heard, going, also, hearing}
use Rattle.document.specs.Tables.{cells, takes, unbranched, branch, branch_of, with_branch, branches, records_of, cells_of, usable_nodes, usable_cells}
use Rattle.document.specs.Theorems.{Asked}
use Rattle.document.specs.Trace.{gathered, trace}
use Rattle.document.specs.Verdict.{Sizes}
use Rattle.document.specs.Said.{asked}
use Rattle.document.specs.Fetch.{supply}
use Rattle.document.specs.declared.questions.Question.{Question}
use Rattle.document.specs.declared.refusals.Refusal.TheVariants.{Count, Depth}
use Rattle.std.specs.List.{AllByRecursion}
use Rattle.document.proofs.Paths.{same_self, at-append, all_append}
use Rattle.document.proofs.Count.{owes, due, Owing, next-owed, Balanced, turn-balanced, due-append, due-none, counted, counted-root}
use Rattle.document.proofs.Texts.{Stands, texts-new, seen-touched, standing_on, standing-unit}
use Rattle.document.proofs.Between.{input-new, at_here, unit_kind, touched, origin, nodes_at, unseen, remaining, Whole, whole-on, look-new, nodes-new, look-seen, nodes-seen, nodes-unit, remaining-unit, remaining-seen, whole-first, is_nil}
use Rattle.document.proofs.Taking.{has, has-whole, slots_left, records_left, slots-step, records-step, branches-same, branches-credit, cells-by-node}

-- what holds of all entries
record Facts (ts : List Entry) : Type 0 where
  sound : (p : Path) → Sound (at p ts)
  one : length (at root ts) ≡ 1
  many : (p : Path) (s : Step) → length (at (p ▹ s) ts) ≡ total (demands s) (at p ts)

-- the reader's state between two calls
record Kept (input after : List ℕ) (col : Meaning) (ts ps es : List Entry) (st : Store) : Type 0 where
  whole : Whole ts ps es
  nodes : (q : Path) → st.nodes q ≡ nodes_at ts ps es q
  rooted : st.rooted ≡ true
  left : st.input ≡ remaining col ts ps es ++ after
  tail : drop st.place input ≡ st.input
  standing : (q : Path) → touched (at q ps) ≡ true → Stands input (st.texts q) (each cell (at q es))
  slots-do : slots_left ts ps es ≤ st.slots
  records-do : records_left ts ps es st.made ≤ st.records

-- the node at which the next value stands has its count, if it is still to be read, and its children are still to be reached
record Ready (ts ps : List Entry) (p : Path) : Type 0 where
  count : at p ps ≡ [] → origin ts ps p ≡ length (at p ts)
  childless : at p ps ≡ [] → (s : Step) → at (p ▹ s) ps ≡ []

kinds-of : (ts ps es : List Entry) → Facts ts → Whole ts ps es → (q : Path) → OneKind (at q ps ++ at q es)
kinds-of ts ps es facts whole q = rw (← (whole q)) (facts.sound q).one-kind

-- the state once a node's cell has been taken, before a child of it may take a record
record Partly (input after : List ℕ) (col : Meaning) (ts ps es : List Entry) (p : Path) (v : Value) (st : Store) : Type 0 where
  whole : Whole ts (ps ++ entry p v ∷ []) es
  nodes : (q : Path) → put p (ready (kind v) (each cell (at p es))) st.nodes q ≡ nodes_at ts (ps ++ entry p v ∷ []) es q
  rooted : st.rooted ≡ true
  left : st.input ≡ remaining col ts (ps ++ entry p v ∷ []) es ++ after
  tail : drop st.place input ≡ st.input
  here : take (letter_count (cell v)) (drop (st.texts p) input) ≡ str (cell v)
  standing : (q : Path) → touched (at q (ps ++ entry p v ∷ [])) ≡ true → Stands input (put p (st.texts p + letter_count (cell v)) st.texts q) (each cell (at q es))
  slots-do : slots_left ts (ps ++ entry p v ∷ []) es ≤ st.slots
  credit : (nk : Path → Bool) → ((q : Path) → same p q ≡ false → (i : ℕ) → nk (q ▹ alt i) ≡ st.made (q ▹ alt i))
      → branches (λ i. nk (p ▹ alt i)) (at p es) ≤ branches (λ i. st.made (p ▹ alt i)) (v ∷ at p es)
      → records_left ts (ps ++ entry p v ∷ []) es nk + branches (λ i. st.made (p ▹ alt i)) (v ∷ at p es) ≤ branches (λ i. nk (p ▹ alt i)) (at p es) + st.records

Touched : (input after : List ℕ) → Meaning → (ts ps es : List Entry) (p : Path) (v : Value) (st : Store) → Type 0
Touched input after col ts ps es p v st = (su : Store) × (look col p (kind v) st ≡ found (cell v ∷ each cell (at p es)) su) × Partly input after col ts ps es p v su

touch : (input after : List ℕ) (col : Meaning) (law : Lawful col) (ts ps es : List Entry) (p : Path) (v : Value) (st : Store)
    → Facts ts → Kept input after col ts ps (entry p v ∷ es) st → Ready ts ps p → unit_kind (kind v) ≡ false → Touched input after col ts ps es p v st
unfolding Touched
touch input after col law ts ps es p v st facts kept ready' f = go (at p ps) refl
  where
    kinds : OneKind (at p ps ++ v ∷ at p es)
    kinds = rw (same_self p) at (kinds-of ts ps (entry p v ∷ es) facts kept.whole p)

    member : has p (firsts ts) ≡ true
    member = has-whole ts ps es p v (kept.whole p)

    slots : slots_left ts (ps ++ entry p v ∷ []) es + cond (unseen ps p) (total cells (v ∷ at p es)) 0 ≤ st.slots
    slots = omega (arith, slots-step ts ps es p v member, kept.slots-do)

    records : (nk : Path → Bool) → ((q : Path) → same p q ≡ false → (i : ℕ) → nk (q ▹ alt i) ≡ st.made (q ▹ alt i))
        → branches (λ i. nk (p ▹ alt i)) (at p es) ≤ branches (λ i. st.made (p ▹ alt i)) (v ∷ at p es)
        → records_left ts (ps ++ entry p v ∷ []) es nk + cond (unseen ps p) (takes (kind v)) 0 + branches (λ i. st.made (p ▹ alt i)) (v ∷ at p es)
        ≤ branches (λ i. nk (p ▹ alt i)) (at p es) + st.records
    records nk off less = omega (arith, records-step ts ps es p v st.made nk member off less, kept.records-do)

    go : (xs : List Value) → at p ps ≡ xs → Touched input after col ts ps es p v st
    go [] e =
        let n : st.nodes p ≡ fresh (length (at p ts)) = kept.nodes p ∙ rw e (ap fresh (ready'.count e)) in
        let w : at p ts ≡ v ∷ at p es = whole-first ts ps es p v kept.whole e in
        let u : unseen ps p ≡ true = ap is_nil e in
        let s : slots_left ts (ps ++ entry p v ∷ []) es + total cells (at p ts) ≤ st.slots = rw w (rw u at slots) in
        let r : takes (kind v) ≤ st.records =
        omega (arith, rw u at (records st.made (λ q o i. refl) (branches-credit (λ i. st.made (p ▹ alt i)) (branch_of v) (at p es))), branches-credit (λ i. st.made (p ▹ alt i)) (branch_of v) (at p es)) in
        let rest : List ℕ = remaining col ts (ps ++ entry p v ∷ []) es ++ after in
        let su : Store = opened p (kind v) (each cell (at p ts)) (supply (st.slots - total cells (at p ts)) rest) st in
        let in' : st.input ≡ columns col (kind v) (each cell (at p ts)) ++ rest = kept.left ∙ input-new col ts ps es p v after kept.whole e in
        let text = texts-new col input (kind v) (at p ts) rest st.place (rw w (refl, (rw w at (facts.sound p)).one-kind)) (kept.tail ∙ in') in
        let place : su.texts p ≡ st.place + (length st.input - length rest) - total letter_count (each cell (at p ts)) = rw (same_self p) refl in
        let size : length st.input - length rest ≡ length (columns col (kind v) (each cell (at p ts))) = omega (arith, ap length in', length-append (columns col (kind v) (each cell (at p ts))) rest) in
        let stand : Stands input (su.texts p) (cell v ∷ each cell (at p es)) =
        rw (place, size) (subst (λ (xs : List Value). Stands input (st.place + length (columns col (kind v) (each cell (at p ts))) - total letter_count (each cell (at p ts))) (each cell xs)) w text.0) in (
          su,
          look-new col law ts ps es p v st after (facts.sound p) kept.whole e n kept.left r (omega arith),
          record {
            whole = whole-on ts ps es (entry p v) kept.whole;
            nodes = nodes-new col ts ps es p v st.nodes f (facts.sound p) kept.whole e (ready'.childless e) (facts.many p) kept.nodes;
            rooted = kept.rooted;
            left = refl;
            tail = rw size text.1;
            here = stand.0;
            standing = standing_on input ps es p v st.texts su.texts (su.texts p + letter_count (cell v)) (λ q o. rw o refl) kept.standing stand.1;
            slots-do = omega arith;
            credit = λ nk off less. omega (arith, r, rw u at (records nk off less));
          },
        )
    go (x ∷ xs) e =
        let u : unseen ps p ≡ false = ap is_nil e in
        let t : touched (at p ps) ≡ true = rw e (seen-touched x v xs (at p es) f (rw e at kinds)) in
        let stand : Stands input (st.texts p) (cell v ∷ each cell (at p es)) = subst (λ (ys : List Value). Stands input (st.texts p) (each cell ys)) (at_here p v es) (kept.standing p t) in (
          st,
          look-seen col ts ps es p v x xs st f kinds e (kept.nodes p),
          record {
            whole = whole-on ts ps es (entry p v) kept.whole;
            nodes = nodes-seen ts ps es p v x xs st.nodes f kinds e kept.nodes;
            rooted = kept.rooted;
            left = kept.left ∙ ap (λ l. l ++ after) (remaining-seen col ts ps es p v x xs e);
            tail = kept.tail;
            here = stand.0;
            standing = standing_on input ps es p v st.texts st.texts (st.texts p + letter_count (cell v)) (λ q o. refl) kept.standing stand.1;
            slots-do = omega (arith, slots);
            credit = λ nk off less. omega (arith, rw u at (records nk off less));
          },
        )

-- no child takes a record
kept-plain : (input after : List ℕ) (col : Meaning) (ts ps es : List Entry) (p : Path) (v : Value) (st : Store) → Partly input after col ts ps es p v st
    → Kept input after col ts (ps ++ entry p v ∷ []) es (taken p (kind v) (cell v) (each cell (at p es)) st)
kept-plain input after col ts ps es p v st t =
    let k : branches (λ i. st.made (p ▹ alt i)) (at p es) ≤ branches (λ i. st.made (p ▹ alt i)) (v ∷ at p es) = branches-credit (λ i. st.made (p ▹ alt i)) (branch_of v) (at p es) in
    record {
      whole = t.whole;
      nodes = t.nodes;
      rooted = t.rooted;
      left = t.left;
      tail = t.tail;
      standing = t.standing;
      slots-do = t.slots-do;
      records-do = omega (arith, t.credit st.made (λ q o i. refl) k);
    }

Recorded : (input after : List ℕ) → Meaning → (ts ps es : List Entry) (p : Path) (v : Value) (fs : List Place) (st : Store) (i : ℕ) → Type 0
Recorded input after col ts ps es p v fs st i =
    (su : Store) × (recorded (val v) (st.texts p) fs (taken p (kind v) (cell v) (each cell (at p es)) st) (child (p ▹ alt i)) ≡ reply (val v) (st.texts p) (reading fs su))
    × Kept input after col ts (ps ++ entry p v ∷ []) es su

-- a child takes one if it is new
kept-branch : (input after : List ℕ) (col : Meaning) (ts ps es : List Entry) (p : Path) (v : Value) (fs : List Place) (st : Store) (i : ℕ) → branch_of v ≡ branch i → Partly input after col ts ps es p v st
    → Recorded input after col ts ps es p v fs st i
unfolding Recorded
kept-branch input after col ts ps es p v fs st i k t = go (st.made (p ▹ alt i)) refl
  where
    off : (q : Path) → same p q ≡ false → (j : ℕ) → put (p ▹ alt i) true st.made (q ▹ alt j) ≡ st.made (q ▹ alt j)
    off q e j = rw e refl

    on : (j : ℕ) → put (p ▹ alt i) true st.made (p ▹ alt j) ≡ with_branch (λ m. st.made (p ▹ alt m)) (branch i) j
    on j = rw (same_self p) refl

    after-branch : branches (λ j. put (p ▹ alt i) true st.made (p ▹ alt j)) (at p es) ≡ branches (with_branch (λ m. st.made (p ▹ alt m)) (branch i)) (at p es)
    after-branch = branches-same (λ j. put (p ▹ alt i) true st.made (p ▹ alt j)) (with_branch (λ m. st.made (p ▹ alt m)) (branch i)) on (at p es)

    go : (b : Bool) → st.made (p ▹ alt i) ≡ b → Recorded input after col ts ps es p v fs st i
    go true e = (taken p (kind v) (cell v) (each cell (at p es)) st, rw e refl, kept-plain input after col ts ps es p v st t)
    go false e =
        let one : branches (λ j. st.made (p ▹ alt j)) (v ∷ at p es) ≡ 1 + branches (with_branch (λ m. st.made (p ▹ alt m)) (branch i)) (at p es) = rw (k, e) refl in
        let room : records_left ts (ps ++ entry p v ∷ []) es (put (p ▹ alt i) true st.made) + 1 ≤ st.records =
        omega (arith, one, after-branch, t.credit (put (p ▹ alt i) true st.made) off (omega (arith, one, after-branch))) in (
          with_child (p ▹ alt i) (taken p (kind v) (cell v) (each cell (at p es)) st),
          rw (e, le-leb 1 st.records (omega arith)) refl,
          record { whole = t.whole; nodes = t.nodes; rooted = t.rooted; left = t.left; tail = t.tail; standing = t.standing; slots-do = t.slots-do; records-do = omega arith },
        )

pass : (input after : List ℕ) (col : Meaning) (ts ps es : List Entry) (p : Path) (st : Store)
    → Facts ts → Kept input after col ts ps (entry p unit ∷ es) st → Kept input after col ts (ps ++ entry p unit ∷ []) es st
pass input after col ts ps es p st facts kept =
    record {
      whole = whole-on ts ps es (entry p unit) kept.whole;
      nodes = λ q. kept.nodes q ∙ nodes-unit ts ps es p (kinds-of ts ps (entry p unit ∷ es) facts kept.whole) q;
      rooted = kept.rooted;
      left = kept.left ∙ ap (λ l. l ++ after) (remaining-unit col ts ps es p kept.whole);
      tail = kept.tail;
      standing = standing-unit input ps es p st.texts kept.standing;
      slots-do = omega (arith, slots-step ts ps es p unit member, kept.slots-do);
      records-do = omega (arith, records-step ts ps es p unit st.made st.made member (λ q o i. refl) less, kept.records-do, less);
    }
  where
    member : has p (firsts ts) ≡ true
    member = has-whole ts ps es p unit (kept.whole p)

    less : branches (λ i. st.made (p ▹ alt i)) (at p es) ≤ branches (λ i. st.made (p ▹ alt i)) (unit ∷ at p es)
    less = branches-credit (λ i. st.made (p ▹ alt i)) unbranched (at p es)

light : (flag : Bool) (n : ℕ) → (T flag → n ≤ 65536) → oversized flag n ≡ false
light true n h = le-ltb 65536 n (h tt)
light false n h = refl

-- the answer to a value's question, once it is known where the value stands
at_node : Meaning → Store → Path → List Place → Bool → Value → Reply
at_node col st p fs flag (scalar k b) = rooted st (consult col st p fs (scalar? k))
at_node col st p fs flag (text bs) = rooted st (consult col st p fs text?)
at_node col st p fs flag unit = rooted st (reply (val unit) 0 (reading (settle fs) st))
at_node col st p fs flag none = rooted st (consult col st p fs option?)
at_node col st p fs flag some = rooted st (consult col st p fs option?)
at_node col st p fs flag (variant i) = opening fs (rooted st (consult col st p fs variant?))
at_node col st p fs flag (seq n) = opening fs (rooted st (consult col st p fs (seq? flag)))
at_node col st p fs flag (map n) = opening fs (rooted st (consult col st p fs (map? flag)))
at_node col st p fs flag (tuple n) = opening fs (rooted st (tupled col st p fs n))

answer-value : (col : Meaning) (st : Store) (f : Place) (fs : List Place) (flag : Bool) (v : Value) → respond col st f fs (asked flag (val v)) ≡ standing (next f) (λ p g. at_node col st p (g ∷ fs) flag v)
unfolding at_node
answer-value col st f fs flag (scalar k b) = refl
answer-value col st f fs flag (text bs) = refl
answer-value col st f fs flag unit = refl
answer-value col st f fs flag none = refl
answer-value col st f fs flag some = refl
answer-value col st f fs flag (variant i) = refl
answer-value col st f fs flag (seq n) = refl
answer-value col st f fs flag (map n) = refl
answer-value col st f fs flag (tuple n) = refl

Answered : (input after : List ℕ) → Meaning → (ts ps es : List Entry) (p : Path) (v : Value) (st : Store) (fs : List Place) (flag : Bool) → Type 0
Answered input after col ts ps es p v st fs flag =
    (su : Store) × (k : ℕ) × (at_node col st p fs flag v ≡ reply (val v) k (reading (settle (opens p v ++ fs)) su))
    × (hearing input (val v) k ≡ val v) × Kept input after col ts (ps ++ leaves p v) es su

-- the root has its record
is-rooted : (st : Store) (r : Reply) → st.rooted ≡ true → rooted st r ≡ r
is-rooted st r e = cond-true st.rooted r _ e

-- a value call's question gets its value
answered : (input after : List ℕ) (col : Meaning) (law : Lawful col) (ts ps es : List Entry) (p : Path) (v : Value) (st : Store) (fs : List Place) (flag : Bool)
    → Facts ts → Kept input after col ts ps (leaves p v ++ es) st → Ready ts ps p → (T flag → extent v ≤ 65536) → too_many (length (opens p v ++ fs)) ≡ false → Answered input after col ts ps es p v st fs flag
unfolding Answered Touched Recorded at_node
answered input after col law ts ps es p (scalar k b) st fs flag facts kept r h d =
    let t : Touched input after col ts ps es p (scalar k b) st = touch input after col law ts ps es p (scalar k b) st facts kept r refl in
    (_, t.0.texts p, is-rooted st _ kept.rooted ∙ rw (t.1, d) refl, refl, kept-plain input after col ts ps es p (scalar k b) t.0 t.2)
answered input after col law ts ps es p (text ls) st fs flag facts kept r h d =
    let t : Touched input after col ts ps es p (text ls) st = touch input after col law ts ps es p (text ls) st facts kept r refl in
    (_, t.0.texts p, is-rooted st _ kept.rooted ∙ rw (t.1, d) refl, ap (λ (bs : List ℕ). val (text bs)) t.2.here, kept-plain input after col ts ps es p (text ls) t.0 t.2)
answered input after col law ts ps es p unit st fs flag facts kept r h d = (st, 0, is-rooted st _ kept.rooted, refl, pass input after col ts ps es p st facts kept)
answered input after col law ts ps es p none st fs flag facts kept r h d =
    let t : Touched input after col ts ps (entry (p ▹ alt 0) unit ∷ es) p none st = touch input after col law ts ps (entry (p ▹ alt 0) unit ∷ es) p none st facts kept r refl in (
      _,
      t.0.texts p,
      is-rooted st _ kept.rooted ∙ rw (t.1, d) refl,
      refl,
      rw (append_assoc ps (entry p none ∷ []) (entry (p ▹ alt 0) unit ∷ [])) at
          (pass input after col ts (ps ++ entry p none ∷ []) es (p ▹ alt 0) _ facts (kept-plain input after col ts ps (entry (p ▹ alt 0) unit ∷ es) p none t.0 t.2)),
    )
answered input after col law ts ps es p some st fs flag facts kept r h d =
    let t : Touched input after col ts ps es p some st = touch input after col law ts ps es p some st facts kept r refl in
    let k : Recorded input after col ts ps es p some (only (p ▹ alt 1) ∷ fs) t.0 1 = kept-branch input after col ts ps es p some (only (p ▹ alt 1) ∷ fs) t.0 1 refl t.2 in
    (k.0, t.0.texts p, is-rooted st _ kept.rooted ∙ rw (t.1, d) k.1, refl, k.2)
answered input after col law ts ps es p (variant i) st fs flag facts kept r h d =
    let t : Touched input after col ts ps es p (variant i) st = touch input after col law ts ps es p (variant i) st facts kept r refl in
    let k : Recorded input after col ts ps es p (variant i) (only (p ▹ alt i) ∷ fs) t.0 i = kept-branch input after col ts ps es p (variant i) (only (p ▹ alt i) ∷ fs) t.0 i refl t.2 in
    (k.0, t.0.texts p, rw d (is-rooted st _ kept.rooted ∙ rw (t.1, d) k.1), refl, k.2)
answered input after col law ts ps es p (seq n) st fs flag facts kept r h d =
    let t : Touched input after col ts ps es p (seq n) st = touch input after col law ts ps es p (seq n) st facts kept r refl in
    (_, t.0.texts p, rw d (is-rooted st _ kept.rooted ∙ rw (t.1, light flag n h, d) refl), refl, kept-plain input after col ts ps es p (seq n) t.0 t.2)
answered input after col law ts ps es p (map n) st fs flag facts kept r h d =
    let t : Touched input after col ts ps es p (map n) st = touch input after col law ts ps es p (map n) st facts kept r refl in
    (_, t.0.texts p, rw d (is-rooted st _ kept.rooted ∙ rw (t.1, light flag n h, d) refl), refl, kept-plain input after col ts ps es p (map n) t.0 t.2)
answered input after col law ts ps es p (tuple zero) st fs flag facts kept r h d =
    let t : Touched input after col ts ps es p (tuple 0) st = touch input after col law ts ps es p (tuple 0) st facts kept r refl in
    (_, t.0.texts p, rw d (is-rooted st _ kept.rooted ∙ rw (t.1, d) refl), refl, kept-plain input after col ts ps es p (tuple 0) t.0 t.2)
answered input after col law ts ps es p (tuple (suc zero)) st fs flag facts kept r h d = (st, 0, rw d (is-rooted st _ kept.rooted), refl, rw (append-nil ps) kept)
answered input after col law ts ps es p (tuple (suc (suc n))) st fs flag facts kept r h d =
    let t : Touched input after col ts ps es p (tuple (suc (suc n))) st = touch input after col law ts ps es p (tuple (suc (suc n))) st facts kept r refl in
    (_, t.0.texts p, rw d (is-rooted st _ kept.rooted ∙ rw (t.1, d) refl), refl, kept-plain input after col ts ps es p (tuple (suc (suc n))) t.0 t.2)

-- ---- where the next value stands

-- what the entries so far and the open places come to
Balance : List Entry → List Place → Type 0
Balance ps fs = (q : Path) → length (at q ps) + owes fs q ≡ owes start q + due ps q

is-unit : (K : Kind) → unit_kind K ≡ true → K ≡ UNIT
is-unit (SCALAR k) e = cc
is-unit TEXT e = cc
is-unit SEQ e = cc
is-unit MAP e = cc
is-unit ENUM e = cc
is-unit UNIT e = refl
is-unit (TUPLE n) e = cc

units-demand : (s : Step) (vs : List Value) → AllByRecursion (λ u. kind u ≡ UNIT) vs → total (demands s) vs ≡ 0
units-demand s [] h = refl
units-demand s (v ∷ vs) h = omega (arith, units-demand s vs h.1, ap (λ K. demand K s (cell v)) h.0)

demanded : (s : Step) (xs ys : List Value) → OneKind (xs ++ ys) → 0 < total (demands s) xs → touched xs ≡ true
demanded s [] ys k h = absurd (omega arith)
demanded s (x ∷ xs) ys k h = go (unit_kind (kind x)) refl
  where
    go : (b : Bool) → unit_kind (kind x) ≡ b → not b ≡ true
    go true e =
        let u : kind x ≡ UNIT = is-unit (kind x) e in
        let a : AllByRecursion (λ w. kind w ≡ kind x) xs = (all_append (λ w. kind w ≡ kind x) xs ys k).0 in
        absurd (omega (arith, units-demand s (x ∷ xs) (u, rw u at a)))
    go false e = refl

ready_at : (ts ps es : List Entry) (p : Path) (fs : List Place) → Facts ts → Whole ts ps es → Balance ps fs → 0 < owes fs p → Ready ts ps p
unfolding Balance
ready_at ts ps es p fs facts whole bal h = record { count = count' p h; childless = childless' }
  where
    count' : (q : Path) → 0 < owes fs q → at q ps ≡ [] → origin ts ps q ≡ length (at q ts)
    count' root k e = sym facts.one
    count' (r ▹ s) k e =
        let d : touched (at r ps) ≡ true = demanded s (at r ps) (at r es) (kinds-of ts ps es facts whole r) (omega (arith, bal (r ▹ s))) in
        rw d refl

    childless' : at p ps ≡ [] → (s : Step) → at (p ▹ s) ps ≡ []
    childless' e s = nil_from_length (at (p ▹ s) ps) (omega (arith, bal (p ▹ s), ap (total (demands s)) e))

-- a turn keeps the balance
balance-on : (ps es : List Entry) (fs gs : List Place) → Balance ps fs → ((q : Path) → owes fs q + due es q ≡ length (at q es) + owes gs q) → Balance (ps ++ es) gs
unfolding Balance
balance-on ps es fs gs bal turned q =
    omega (arith, bal q, turned q, due-append ps es q, length-append (at q ps) (at q es), ap length (at-append q ps es))

-- ---- all calls

Replaying : (input after : List ℕ) → Meaning → List Entry → List Call → Type 0
Replaying input after col ts cs =
    (fs : List Place) (ps : List Entry) (st : Store) (qs : List Question)
    → Complete fs cs → Balance ps fs → Kept input after col ts ps (trace fs cs) st → Asked qs cs → replay col input (reading fs st) qs ≡ heard cs after

replay-end : (input after : List ℕ) → (col : Meaning) (ts : List Entry) (cs : List Call) → Replaying input after col ts cs
    → (f : Place) (fs : List Place) (ps : List Entry) (st : Store) (q : Question) (qs : List Question) (b : Bool)
    → ((o : Path) → Balanced o (f ∷ fs) (cond b (goes [] (settle fs)) (stays Count)))
    → Onward (cond b (goes [] (settle fs)) (stays Count)) (λ gs. Complete gs cs)
    → Balance ps (f ∷ fs) → Kept input after col ts ps (gathered (cond b (goes [] (settle fs)) (stays Count)) (λ gs. trace gs cs)) st → Asked qs cs
    → going input (cond b (reply end 0 (reading (settle fs) st)) (refuse Count)) (λ s. replay col input s qs) ≡ heard (end ∷ cs) after
unfolding Replaying
replay-end input after col ts cs ih f fs ps st q qs true turned whole bal kept asks' =
    ap (also end) (ih (settle fs) ps st qs whole (rw (append-nil ps) at (balance-on ps [] (f ∷ fs) (settle fs) bal turned)) kept asks')
replay-end input after col ts cs ih f fs ps st q qs false turned whole bal kept asks' = absurd whole

replay-value : (input after : List ℕ) → (col : Meaning) (law : Lawful col) (ts : List Entry) (cs : List Call) → Facts ts → Replaying input after col ts cs
    → (v : Value) (f : Place) (fs : List Place) (ps : List Entry) (st : Store) (flag : Bool) (qs : List Question) (n : Next)
    → ((o : Path) → Owing o f n) → ((o : Path) → Balanced o (f ∷ fs) (tell v fs n))
    → Onward (tell v fs n) (λ gs. Complete gs cs)
    → Balance ps (f ∷ fs) → Kept input after col ts ps (gathered (tell v fs n) (λ gs. trace gs cs)) st → (T flag → extent v ≤ 65536) → Asked qs cs
    → going input (standing n (λ p g. at_node col st p (g ∷ fs) flag v)) (λ s. replay col input s qs) ≡ heard (val v ∷ cs) after
unfolding Replaying Answered
replay-value input after col law ts cs facts ih v f fs ps st flag qs nowhere owing turned whole bal kept small asks' = absurd whole
replay-value input after col law ts cs facts ih v f fs ps st flag qs (there p g) owing turned whole bal kept small asks' =
    go (too_many (length (opens p v ++ g ∷ fs))) refl turned whole kept
  where
    owe : 0 < owes (f ∷ fs) p
    owe = omega (arith, owing p, ap (λ b. cond {A = ℕ} b 1 0) (same_self p))

    go : (b : Bool) → too_many (length (opens p v ++ g ∷ fs)) ≡ b
        → ((o : Path) → Balanced o (f ∷ fs) (cond b (stays Depth) (goes (leaves p v) (settle (opens p v ++ g ∷ fs)))))
        → Onward (cond b (stays Depth) (goes (leaves p v) (settle (opens p v ++ g ∷ fs)))) (λ hs. Complete hs cs)
        → Kept input after col ts ps (gathered (cond b (stays Depth) (goes (leaves p v) (settle (opens p v ++ g ∷ fs)))) (λ hs. trace hs cs)) st
        → going input (at_node col st p (g ∷ fs) flag v) (λ s. replay col input s qs) ≡ heard (val v ∷ cs) after
    go true d turned' whole' kept' = absurd whole'
    go false d turned' whole' kept' =
        let r : Ready ts ps p = ready_at ts ps (leaves p v ++ trace (settle (opens p v ++ g ∷ fs)) cs) p (f ∷ fs) facts kept'.whole bal owe in
        let a : Answered input after col ts ps (trace (settle (opens p v ++ g ∷ fs)) cs) p v st (g ∷ fs) flag =
        answered input after col law ts ps (trace (settle (opens p v ++ g ∷ fs)) cs) p v st (g ∷ fs) flag facts kept' r small d in
        rw (a.2, a.3) (ap (also (val v)) (ih (settle (opens p v ++ g ∷ fs)) (ps ++ leaves p v) a.0 qs whole' (balance-on ps (leaves p v) (f ∷ fs) (settle (opens p v ++ g ∷ fs)) bal turned') a.4 asks'))

replaying : (input after : List ℕ) → (col : Meaning) (law : Lawful col) (ts : List Entry) → Facts ts → (cs : List Call) → Replaying input after col ts cs
unfolding Replaying
replaying input after col law ts facts [] fs ps st [] h bal kept a = rw (h, kept.left) refl
replaying input after col law ts facts [] fs ps st (q ∷ qs) h bal kept a = absurd a
replaying input after col law ts facts (c ∷ cs) [] ps st qs h bal kept a = absurd h
replaying input after col law ts facts (c ∷ cs) (f ∷ fs) ps st [] h bal kept a = absurd a
replaying input after col law ts facts (val v ∷ cs) (f ∷ fs) ps st (q ∷ qs) h bal kept a =
    rw (a.0.1, answer-value col st f fs a.0.0 v) (replay-value input after col law ts cs facts (replaying input after col law ts facts cs) v f fs ps st a.0.0 qs (next f) (λ o. next-owed o f) (λ o. turn-balanced o (f ∷ fs) (val v)) h bal kept a.0.2 a.1)
replaying input after col law ts facts (end ∷ cs) (f ∷ fs) ps st (q ∷ qs) h bal kept a =
    rw a.0 (replay-end input after col ts cs (replaying input after col law ts facts cs) f fs ps st q qs (full f) (λ o. turn-balanced o (f ∷ fs) end) h bal kept a.1)

-- ---- from the start

keep_all : (qs : List Path) → keep (unseen []) qs ≡ qs
keep_all [] = refl
keep_all (q ∷ qs) = ap (λ l. q ∷ l) (keep_all qs)

unread-is : (ts : List Entry) (q : Path) → unread q ≡ nodes_at ts [] ts q
unread-is ts root = refl
unread-is ts (r ▹ s) = refl

-- the store of a new reader
abbrev fresh-store : ℕ → ℕ → List ℕ → Store
fresh-store nodes slots bs = (begin nodes slots bs).store

kept-first : (after : List ℕ) (col : Meaning) (ts : List Entry) (nodes slots : ℕ) → 1 + records_of ts ≤ usable_nodes nodes → cells_of ts ≤ usable_cells slots
    → Kept (bytes_of col ts ++ after) after col ts [] ts (fresh-store nodes slots (bytes_of col ts ++ after))
kept-first after col ts nodes slots h k =
    record {
      whole = λ q. refl;
      nodes = unread-is ts;
      rooted = le-leb 1 (usable_nodes nodes) (omega arith);
      left = rw (keep_all (firsts ts)) refl;
      tail = refl;
      standing = λ q t. absurd (false≢true t);
      slots-do = omega (arith, cells-by-node ts);
      records-do = omega arith;
    }

balance-first : Balance [] start
unfolding Balance
balance-first q = omega (arith, due-none q)

facts-of : (sizes : Sizes) (cs : List Call) → Sane sizes cs → Facts (trace start cs)
facts-of sizes cs a = record { sound = a.sound; one = counted-root cs a.complete; many = counted cs a.complete }

-- a reader whose tables are no smaller than the writer's hears the calls
pub heard-within : (col : Meaning) → Lawful col → (sizes : Sizes) (cs : List Call) → Sane sizes cs → (qs : List Question) → Asked qs cs
    → (nodes slots : ℕ) → sizes.nodes ≤ nodes → sizes.cells ≤ slots → (after : List ℕ)
    → replay col (bytes col cs ++ after) (begin nodes slots (bytes col cs ++ after)) qs ≡ heard cs after
unfolding Replaying
heard-within col law sizes cs a qs asks' nodes slots n c after =
    replaying (bytes col cs ++ after) after col law (trace start cs) (facts-of sizes cs a) cs start [] (fresh-store nodes slots (bytes col cs ++ after)) qs a.complete balance-first
    (kept-first after col (trace start cs) nodes slots (omega (arith, a.within-nodes)) (omega (arith, a.within-cells))) asks'
