-- The nodes and the input of a reader between two calls: ps are the entries so far, es those to come, ts all of them.
use Rattle.std.proofs.Common.{◌≡◌, ℕ, ◌+◌, ◌-◌, ◌≤◌, Bool, true, false, cond, not, List, [], ◌∷◌, ◌++◌, map as each, length, sym, refl, ap, ◌∙◌, subst, ap₂, append_assoc, append-nil}
use Rattle.std.proofs.lemmas.Bool.{eq-eqb, le-leb}
use Rattle.column.specs.Meaning.{Meaning, Lawful}
use Rattle.document.proofs.Sound.{OneKind, Sound}
use Rattle.document.specs.Bytes.{keep, others, firsts, written, node_bytes}
use Rattle.document.specs.Calls.{Kind, SCALAR, TEXT, SEQ, MAP, ENUM, UNIT, TUPLE, Value, unit, kind, cell, total}
use Rattle.document.specs.Columns.{columns, joined}
use Rattle.document.specs.Entries.{Entry, entry, at}
use Rattle.document.specs.Fetch.{supply, fetched, fetch}
use Rattle.document.specs.Nodes.{Path, root, ◌▹◌, Step, same, demand, demands}
use Rattle.document.specs.Reader.{Store, opened, Node, fresh, ready, put, spread, found, look, code}
use Rattle.document.specs.Tables.{cells, takes}
use Rattle.std.specs.List.{AllByRecursion}
use Rattle.document.proofs.Paths.{same_self, same_true, not-child, at-append}
use Rattle.document.proofs.ReadBack.{fetch-back}

abbrev pub unit_kind : Kind → Bool
unit_kind (SCALAR k) = false
unit_kind TEXT = false
unit_kind SEQ = false
unit_kind MAP = false
unit_kind ENUM = false
unit_kind UNIT = true
unit_kind (TUPLE n) = false

-- a node with the values vs behind it and us to come, whose parent has counted n
abbrev pub state : List Value → List Value → ℕ → Node
state [] us n = fresh n
state (v ∷ vs) us n = cond (unit_kind (kind v)) (fresh n) (ready (kind v) (each cell us))

abbrev pub touched : List Value → Bool
touched [] = false
touched (v ∷ vs) = not (unit_kind (kind v))

abbrev pub origin : List Entry → List Entry → Path → ℕ
origin ts ps root = 1
origin ts ps (r ▹ s) = cond (touched (at r ps)) (length (at (r ▹ s) ts)) 0

abbrev pub nodes_at : List Entry → List Entry → List Entry → Path → Node
nodes_at ts ps es q = state (at q ps) (at q es) (origin ts ps q)

abbrev pub is_nil : List Value → Bool
is_nil [] = true
is_nil (v ∷ vs) = false

abbrev pub unseen : List Entry → Path → Bool
unseen ps q = is_nil (at q ps)

abbrev pub remaining : Meaning → List Entry → List Entry → List Entry → List ℕ
remaining col ts ps es = joined (each (node_bytes col ts) (keep (unseen ps) (firsts es)))

-- ---- one more entry

pub at_here : (p : Path) (v : Value) (es : List Entry) → at p (entry p v ∷ es) ≡ v ∷ at p es
at_here p v es = rw (same_self p) refl

pub at-past : (p q : Path) (v : Value) (es : List Entry) → same p q ≡ false → at q (entry p v ∷ es) ≡ at q es
at-past p q v es e = rw e refl

pub at_on : (p : Path) (v : Value) (ps : List Entry) → at p (ps ++ entry p v ∷ []) ≡ at p ps ++ v ∷ []
at_on p v ps = at-append p ps (entry p v ∷ []) ∙ ap (λ xs. at p ps ++ xs) (at_here p v [])

pub at_off : (p q : Path) (v : Value) (ps : List Entry) → same p q ≡ false → at q (ps ++ entry p v ∷ []) ≡ at q ps
at_off p q v ps e = at-append q ps (entry p v ∷ []) ∙ ap (λ xs. at q ps ++ xs) (at-past p q v [] e) ∙ append-nil (at q ps)

pub not-nil : (xs : List Value) (v : Value) → is_nil (xs ++ v ∷ []) ≡ false
not-nil [] v = refl
not-nil (x ∷ xs) v = refl

-- the nodes that are still to be written, less p
keep-push : (p : Path) (v : Value) (ps : List Entry) (qs : List Path) → keep (unseen ps) (others p qs) ≡ keep (unseen (ps ++ entry p v ∷ [])) qs
keep-push p v ps [] = refl
keep-push p v ps (q ∷ qs) = rw (at-append q ps (entry p v ∷ [])) (go (same p q) (keep-push p v ps qs))
  where
    go : (b : Bool) → keep (unseen ps) (others p qs) ≡ keep (unseen (ps ++ entry p v ∷ [])) qs
        → keep (unseen ps) (cond (not b) (q ∷ others p qs) (others p qs))
        ≡ cond (is_nil (at q ps ++ cond b (v ∷ []) [])) (q ∷ keep (unseen (ps ++ entry p v ∷ [])) qs) (keep (unseen (ps ++ entry p v ∷ [])) qs)
    go true h = rw (not-nil (at q ps) v) h
    go false h = rw (append-nil (at q ps)) (ap (λ l. cond (is_nil (at q ps)) (q ∷ l) l) h)

-- ---- a unit: it changes nothing

pub touched-unit : (xs : List Value) (b : Bool) → touched (xs ++ cond b (unit ∷ []) []) ≡ touched xs
touched-unit [] true = refl
touched-unit [] false = refl
touched-unit (x ∷ xs) b = refl

origin-unit : (ts ps : List Entry) (p q : Path) → origin ts (ps ++ entry p unit ∷ []) q ≡ origin ts ps q
origin-unit ts ps p root = refl
origin-unit ts ps p (r ▹ s) = rw (at-append r ps (entry p unit ∷ []), touched-unit (at r ps) (same p r)) refl

-- the last of the values at a node is of the first one's kind
pub last-kind : (x v : Value) (xs vs : List Value) → OneKind (x ∷ xs ++ v ∷ vs) → kind v ≡ kind x
last-kind x v [] vs h = h.0
last-kind x v (y ∷ ys) vs h = last-kind x v ys vs h.1

state-unit : (xs us : List Value) (n : ℕ) (b : Bool) → (b ≡ true → OneKind (xs ++ unit ∷ us)) → state xs (cond b (unit ∷ us) us) n ≡ state (xs ++ cond b (unit ∷ []) []) us n
state-unit [] us n true h = refl
state-unit [] us n false h = refl
state-unit (x ∷ xs) us n true h = let e : UNIT ≡ kind x = last-kind x unit xs us (h refl) in rw (← e) refl
state-unit (x ∷ xs) us n false h = refl

pub nodes-unit : (ts ps es : List Entry) (p : Path) → ((q : Path) → OneKind (at q ps ++ at q (entry p unit ∷ es)))
    → (q : Path) → nodes_at ts ps (entry p unit ∷ es) q ≡ nodes_at ts (ps ++ entry p unit ∷ []) es q
nodes-unit ts ps es p kinds q =
    rw (origin-unit ts ps p q, at-append q ps (entry p unit ∷ []))
    (state-unit (at q ps) (at q es) (origin ts ps q) (same p q) (λ e. rw e at (kinds q)))

-- ---- all entries are those so far and those to come

abbrev pub Whole : List Entry → List Entry → List Entry → Type 0
Whole ts ps es = (q : Path) → at q ts ≡ at q ps ++ at q es

pub whole-on : (ts ps es : List Entry) (e : Entry) → Whole ts ps (e ∷ es) → Whole ts (ps ++ e ∷ []) es
whole-on ts ps es e whole q =
    whole q ∙ rw (at-append q ps (e ∷ [])) (go (same e.node q) ∙ sym (append_assoc (at q ps) (cond (same e.node q) (e.said ∷ []) []) (at q es)))
  where
    go : (b : Bool) → at q ps ++ cond b (e.said ∷ at q es) (at q es) ≡ at q ps ++ (cond b (e.said ∷ []) [] ++ at q es)
    go true = refl
    go false = refl

pub whole-first : (ts ps es : List Entry) (p : Path) (v : Value) → Whole ts ps (entry p v ∷ es) → at p ps ≡ [] → at p ts ≡ v ∷ at p es
whole-first ts ps es p v whole e = whole p ∙ rw (e, at_here p v es) refl

-- the bytes to come, past a node that has been seen, and past one that has not
pub remaining-seen : (col : Meaning) (ts ps es : List Entry) (p : Path) (v u : Value) (us : List Value) → at p ps ≡ u ∷ us
    → remaining col ts ps (entry p v ∷ es) ≡ remaining col ts (ps ++ entry p v ∷ []) es
remaining-seen col ts ps es p v u us e = rw (e, keep-push p v ps (firsts es)) refl

remaining-new : (col : Meaning) (ts ps es : List Entry) (p : Path) (v : Value) → at p ps ≡ []
    → remaining col ts ps (entry p v ∷ es) ≡ node_bytes col ts p ++ remaining col ts (ps ++ entry p v ∷ []) es
remaining-new col ts ps es p v e = rw (e, keep-push p v ps (firsts es)) refl

pub remaining-unit : (col : Meaning) (ts ps es : List Entry) (p : Path) → Whole ts ps (entry p unit ∷ es)
    → remaining col ts ps (entry p unit ∷ es) ≡ remaining col ts (ps ++ entry p unit ∷ []) es
unfolding columns
remaining-unit col ts ps es p whole = go (at p ps) refl
  where
    go : (xs : List Value) → at p ps ≡ xs → remaining col ts ps (entry p unit ∷ es) ≡ remaining col ts (ps ++ entry p unit ∷ []) es
    go [] e = remaining-new col ts ps es p unit e ∙ ap (λ vs. written col vs ++ remaining col ts (ps ++ entry p unit ∷ []) es) (whole-first ts ps es p unit whole e)
    go (u ∷ us) e = remaining-seen col ts ps es p unit u us e

-- the input at a node that is still to be read
pub input-new : (col : Meaning) (ts ps es : List Entry) (p : Path) (v : Value) (after : List ℕ) → Whole ts ps (entry p v ∷ es) → at p ps ≡ []
    → remaining col ts ps (entry p v ∷ es) ++ after ≡ columns col (kind v) (each cell (at p ts)) ++ (remaining col ts (ps ++ entry p v ∷ []) es ++ after)
input-new col ts ps es p v after whole e =
    let w : at p ts ≡ v ∷ at p es = whole-first ts ps es p v whole e in
    let bs : List ℕ = remaining col ts (ps ++ entry p v ∷ []) es ++ after in
    ap (λ l. l ++ after) (remaining-new col ts ps es p v e) ∙ append_assoc (node_bytes col ts p) (remaining col ts (ps ++ entry p v ∷ []) es) after
    ∙ ap (λ vs. written col vs ++ bs) w ∙ ap (λ vs. columns col (kind v) (each cell vs) ++ bs) (sym w)

-- ---- the first look at a node

pub look-new : (col : Meaning) (law : Lawful col) (ts ps es : List Entry) (p : Path) (v : Value) (st : Store) (after : List ℕ)
    → Sound (at p ts) → Whole ts ps (entry p v ∷ es) → at p ps ≡ [] → st.nodes p ≡ fresh (length (at p ts))
    → st.input ≡ remaining col ts ps (entry p v ∷ es) ++ after → takes (kind v) ≤ st.records → total cells (at p ts) ≤ st.slots
    → look col p (kind v) st
    ≡ found (cell v ∷ each cell (at p es))
    (opened p (kind v) (each cell (at p ts)) (supply (st.slots - total cells (at p ts)) (remaining col ts (ps ++ entry p v ∷ []) es ++ after)) st)
look-new col law ts ps es p v st after sound whole e n left r t =
    let w : at p ts ≡ v ∷ at p es = whole-first ts ps es p v whole e in
    let s : Sound (v ∷ at p es) = rw w at sound in
    let bs : List ℕ = remaining col ts (ps ++ entry p v ∷ []) es ++ after in
    let i : st.input ≡ columns col (kind v) (each cell (v ∷ at p es)) ++ bs =
    left ∙ input-new col ts ps es p v after whole e ∙ ap (λ vs. columns col (kind v) (each cell vs) ++ bs) w in
    let f : fetch col st.columns (kind v) (length (v ∷ at p es)) (supply st.slots (columns col (kind v) (each cell (v ∷ at p es)) ++ bs))
    ≡ fetched (each cell (v ∷ at p es)) (supply (st.slots - total cells (v ∷ at p es)) bs) =
    fetch-back col law st.columns (kind v) (v ∷ at p es) bs st.slots (refl, s.one-kind) s.fits s.short-of (rw w at t) in
    rw (n, le-leb (takes (kind v)) st.records r, i, w) (rw f refl)

total-demands : (K : Kind) (s : Step) (vs : List Value) → AllByRecursion (λ u. kind u ≡ K) vs → total (demand K s) (each cell vs) ≡ total (demands s) vs
total-demands K s [] h = refl
total-demands K s (v ∷ vs) h = ap₂ ◌+◌ (ap (λ J. demand J s (cell v)) (sym h.0)) (total-demands K s vs h.1)

-- a node other than the entry's, whose parent is another too
state-off : (ts ps es : List Entry) (p q : Path) (v : Value) → same p q ≡ false → origin ts (ps ++ entry p v ∷ []) q ≡ origin ts ps q
    → nodes_at ts ps (entry p v ∷ es) q ≡ nodes_at ts (ps ++ entry p v ∷ []) es q
state-off ts ps es p q v e o = rw (at-past p q v es e, at_off p q v ps e, o) refl

origin-off : (ts ps : List Entry) (p r : Path) (s : Step) (v : Value) → same p r ≡ false → origin ts (ps ++ entry p v ∷ []) (r ▹ s) ≡ origin ts ps (r ▹ s)
origin-off ts ps p r s v e = rw (at_off p r v ps e) refl

-- the node itself
state-on : (ts ps es : List Entry) (p : Path) (v : Value) → unit_kind (kind v) ≡ false → OneKind (at p ps ++ v ∷ at p es)
    → nodes_at ts (ps ++ entry p v ∷ []) es p ≡ ready (kind v) (each cell (at p es))
state-on ts ps es p v f h = rw (at_on p v ps) (go (at p ps) h)
  where
    go : (xs : List Value) → OneKind (xs ++ v ∷ at p es) → state (xs ++ v ∷ []) (at p es) (origin ts (ps ++ entry p v ∷ []) p) ≡ ready (kind v) (each cell (at p es))
    go [] k = rw f refl
    go (x ∷ xs) k = let e : kind v ≡ kind x = last-kind x v xs (at p es) k in rw (← e, f) refl

pub nodes-new : (col : Meaning) (ts ps es : List Entry) (p : Path) (v : Value) (ns : Path → Node)
    → unit_kind (kind v) ≡ false → Sound (at p ts) → Whole ts ps (entry p v ∷ es) → at p ps ≡ [] → ((s : Step) → at (p ▹ s) ps ≡ [])
    → ((s : Step) → length (at (p ▹ s) ts) ≡ total (demands s) (at p ts))
    → ((q : Path) → ns q ≡ nodes_at ts ps (entry p v ∷ es) q)
    → (q : Path) → put p (ready (kind v) (each cell (at p es))) (spread p (kind v) (each cell (at p ts)) ns) q ≡ nodes_at ts (ps ++ entry p v ∷ []) es q
nodes-new col ts ps es p v ns f sound whole first childless counted nodes q = go (same p q) refl
  where
    ps' : List Entry
    ps' = ps ++ entry p v ∷ []

    w : at p ts ≡ v ∷ at p es
    w = whole-first ts ps es p v whole first

    s' : Sound (v ∷ at p es)
    s' = rw w at sound

    own : put p (ready (kind v) (each cell (at p es))) (spread p (kind v) (each cell (at p ts)) ns) p ≡ nodes_at ts (ps ++ entry p v ∷ []) es p
    own = rw (same_self p) (sym (state-on ts ps es p v f (rw first s'.one-kind)))

    child : (s : Step) → fresh (total (demand (kind v) s) (each cell (at p ts))) ≡ nodes_at ts (ps ++ entry p v ∷ []) es (p ▹ s)
    child s = rw (at_off p (p ▹ s) v ps (not-child p s), childless s, at_on p v ps, first, f, counted s, w) (ap fresh (total-demands (kind v) s (v ∷ at p es) (refl, s'.one-kind)))

    other : (q : Path) → same p q ≡ false → spread p (kind v) (each cell (at p ts)) ns q ≡ nodes_at ts (ps ++ entry p v ∷ []) es q
    other root e = nodes root ∙ state-off ts ps es p root v e refl
    other (r ▹ s) e = below (same p r) refl
      where
        below : (b : Bool) → same p r ≡ b → cond b (fresh (total (demand (kind v) s) (each cell (at p ts)))) (ns (r ▹ s)) ≡ nodes_at ts (ps ++ entry p v ∷ []) es (r ▹ s)
        below true k = child s ∙ ap (λ o. nodes_at ts (ps ++ entry p v ∷ []) es (o ▹ s)) (same_true p r k)
        below false k = nodes (r ▹ s) ∙ state-off ts ps es p (r ▹ s) v e (origin-off ts ps p r s v k)

    go : (b : Bool) → same p q ≡ b → put p (ready (kind v) (each cell (at p es))) (spread p (kind v) (each cell (at p ts)) ns) q ≡ nodes_at ts (ps ++ entry p v ∷ []) es q
    go true e = subst (λ (o : Path). put p (ready (kind v) (each cell (at p es))) (spread p (kind v) (each cell (at p ts)) ns) o ≡ nodes_at ts (ps ++ entry p v ∷ []) es o) (same_true p q e) own
    go false e = rw e (other q e)

-- ---- a later look at a node

origin-seen : (ts ps : List Entry) (p q : Path) (v u : Value) (us : List Value) → at p ps ≡ u ∷ us → origin ts (ps ++ entry p v ∷ []) q ≡ origin ts ps q
origin-seen ts ps p root v u us h = refl
origin-seen ts ps p (r ▹ s) v u us h = go (same p r) refl
  where
    go : (b : Bool) → same p r ≡ b → origin ts (ps ++ entry p v ∷ []) (r ▹ s) ≡ origin ts ps (r ▹ s)
    go true e = let k : at r ps ≡ u ∷ us = rw (← (same_true p r e)) h in rw (at-append r ps (entry p v ∷ []), k) refl
    go false e = origin-off ts ps p r s v e

pub nodes-seen : (ts ps es : List Entry) (p : Path) (v u : Value) (us : List Value) (ns : Path → Node)
    → unit_kind (kind v) ≡ false → OneKind (at p ps ++ v ∷ at p es) → at p ps ≡ u ∷ us
    → ((q : Path) → ns q ≡ nodes_at ts ps (entry p v ∷ es) q)
    → (q : Path) → put p (ready (kind v) (each cell (at p es))) ns q ≡ nodes_at ts (ps ++ entry p v ∷ []) es q
nodes-seen ts ps es p v u us ns f kinds h nodes q = go (same p q) refl
  where
    own : put p (ready (kind v) (each cell (at p es))) ns p ≡ nodes_at ts (ps ++ entry p v ∷ []) es p
    own = rw (same_self p) (sym (state-on ts ps es p v f kinds))

    go : (b : Bool) → same p q ≡ b → put p (ready (kind v) (each cell (at p es))) ns q ≡ nodes_at ts (ps ++ entry p v ∷ []) es q
    go true e = subst (λ (o : Path). put p (ready (kind v) (each cell (at p es))) ns o ≡ nodes_at ts (ps ++ entry p v ∷ []) es o) (same_true p q e) own
    go false e = rw e (nodes q ∙ state-off ts ps es p q v e (origin-seen ts ps p q v u us h))

pub look-seen : (col : Meaning) (ts ps es : List Entry) (p : Path) (v u : Value) (us : List Value) (st : Store)
    → unit_kind (kind v) ≡ false → OneKind (at p ps ++ v ∷ at p es) → at p ps ≡ u ∷ us → st.nodes p ≡ nodes_at ts ps (entry p v ∷ es) p
    → look col p (kind v) st ≡ found (cell v ∷ each cell (at p es)) st
look-seen col ts ps es p v u us st f kinds h node =
    let k : kind v ≡ kind u = last-kind u v us (at p es) (rw h at kinds) in
    let n : st.nodes p ≡ ready (kind v) (cell v ∷ each cell (at p es)) = node ∙ rw (at_here p v es, h, ← k, f) refl in
    rw n (rw (eq-eqb (code (kind v)) (code (kind v)) refl) refl)
