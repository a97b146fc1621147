-- Node records: as many as the tables are charged for, no node with two, and one at each node that has a value or at which one is next.
use Rattle.std.proofs.Common.{◌≡◌, ℕ, zero, suc, ◌+◌, ◌*◌, ◌≤◌, Bool, true, false, cond, not, eqb, ltb, ◌≢◌, ◌⊎◌, List, [], ◌∷◌, ◌++◌, length, sym, refl, ap, ◌∙◌, subst, inl, inr, append_assoc, append-nil, add-mul, one-mul, zero-mul, arith, length-append}
use Rattle.std.proofs.lemmas.Bool.{cases_eq, eq-eqb, ne_eqb}
use Rattle.document.specs.Calls.{total, Cell, cell, Kind, SCALAR, TEXT, SEQ, MAP, ENUM, UNIT, TUPLE, Value, scalar, text, unit, none, some, variant, seq, map, tuple, kind, Call}
use Rattle.std.specs.List.{AllByRecursion}
use Rattle.document.specs.Nodes.{Path, root, ◌▹◌, Step, elem, key, value, field, alt, alike, same, field_of, demand, demands}
use Rattle.document.specs.Entries.{Entry, entry, at}
use Rattle.document.specs.Bytes.{keep, others, firsts}
use Rattle.document.specs.Tables.{takes, Branch, unbranched, branch, branch_of, new_branch, with_branch, branches, records_at, records_of}
use Rattle.document.specs.Records.{fields_from, brought, had, new_child, marked, added, added_by, nodes_of, times}
use Rattle.document.proofs.Paths.{same_self, same_true, at-append, total-append}
use Rattle.document.specs.Places.{Place, there, next, start}
use Rattle.document.specs.Trace.{trace, places_after}
use Rattle.document.specs.Verdict.{Sizes, Accepted}
use Rattle.document.specs.Theorems.{Allocation}
use Rattle.document.proofs.Sound.{OneKind}
use Rattle.document.proofs.Count.{here, rest, rest_all, owed, owes, Owing, next-owed, balanced}
use Rattle.document.proofs.Accepting.{accepted-held}
use Rattle.document.proofs.Between.{is_nil, at_on, at_off}

-- ---- at one node

branches-snoc : (seen : ℕ → Bool) (vs : List Value) (v : Value) → branches seen (vs ++ v ∷ []) ≡ branches seen vs + new_branch (had seen vs) (branch_of v)
branches-snoc seen [] v = omega arith
branches-snoc seen (u ∷ us) v = omega (arith, branches-snoc (with_branch seen (branch_of u)) us v)

length_fields : (p : Path) (i n : ℕ) → length (fields_from p i n) ≡ n
length_fields p i zero = refl
length_fields p i (suc n) = ap suc (length_fields p (suc i) n)

pub length-brought : (p : Path) (K : Kind) → length (brought p K) ≡ takes K
length-brought p (SCALAR k) = refl
length-brought p TEXT = refl
length-brought p SEQ = refl
length-brought p MAP = refl
length-brought p ENUM = refl
length-brought p UNIT = refl
length-brought p (TUPLE n) = length_fields p 0 n

length-child : (seen : ℕ → Bool) (p : Path) (b : Branch) → length (new_child seen p b) ≡ new_branch seen b
length-child seen p unbranched = refl
length-child seen p (branch i) = go (seen i)
  where
    go : (b : Bool) → length (cond b [] ((p ▹ alt i) ∷ [])) ≡ cond b 0 1
    go true = refl
    go false = refl

-- what one more value at a node takes
records-at : (p : Path) (vs : List Value) (v : Value) → records_at (vs ++ v ∷ []) ≡ records_at vs + (length (marked vs p (kind v)) + new_branch (had (λ i. false) vs) (branch_of v))
records-at p [] v = omega (arith, length-brought p (kind v), branches-snoc (λ i. false) [] v)
records-at p (u ∷ us) v = omega (arith, branches-snoc (λ i. false) (u ∷ us) v)

-- ---- over all nodes

keep_append : (t : Path → Bool) (xs ys : List Path) → keep t (xs ++ ys) ≡ keep t xs ++ keep t ys
keep_append t [] ys = refl
keep_append t (x ∷ xs) ys = go (t x) (keep_append t xs ys)
  where
    go : (b : Bool) → keep t (xs ++ ys) ≡ keep t xs ++ keep t ys → cond b (x ∷ keep t (xs ++ ys)) (keep t (xs ++ ys)) ≡ cond b (x ∷ keep t xs) (keep t xs) ++ keep t ys
    go true e = ap (λ l. x ∷ l) e
    go false e = e

-- a node is among the first ones once, if it has a value
times-others : (p r : Path) (qs : List Path) → times p (others r qs) ≡ cond (same r p) 0 (times p qs)
times-others p r [] = none (same r p)
  where
    none : (b : Bool) → ◌≡◌ {A = ℕ} 0 (cond b 0 0)
    none true = refl
    none false = refl
times-others p r (q ∷ qs) = go (same r q) refl (same p q) refl (same r p) refl (times-others p r qs)
  where
    go : (a : Bool) → same r q ≡ a → (b : Bool) → same p q ≡ b → (c : Bool) → same r p ≡ c → times p (others r qs) ≡ cond c 0 (times p qs)
        → times p (cond (not a) (q ∷ others r qs) (others r qs)) ≡ cond c 0 (cond b 1 0 + times p qs)
    go true ea true eb true ec ih = ih
    go true ea false eb true ec ih = ih
    go true ea true eb false ec ih = let w : same r p ≡ true = rw (same_true p q eb) ea in cc
    go true ea false eb false ec ih = omega (arith, ih)
    go false ea true eb true ec ih = let w : same r q ≡ true = rw (← (same_true p q eb)) ec in cc
    go false ea true eb false ec ih = rw eb (omega (arith, ih))
    go false ea false eb true ec ih = rw eb (omega (arith, ih))
    go false ea false eb false ec ih = rw eb (omega (arith, ih))

same-sym : (p q : Path) → same p q ≡ true → same q p ≡ true
same-sym p q e = rw (same_true p q e) (same_self q)

pub times-firsts : (p : Path) (ts : List Entry) → times p (firsts ts) ≡ cond (is_nil (at p ts)) 0 1
times-firsts p [] = refl
times-firsts p (d ∷ ts) = go (same d.node p) refl (same p d.node) refl (times-others p d.node (firsts ts)) (times-firsts p ts)
  where
    go : (b : Bool) → same d.node p ≡ b → (c : Bool) → same p d.node ≡ c → times p (others d.node (firsts ts)) ≡ cond b 0 (times p (firsts ts))
        → times p (firsts ts) ≡ cond (is_nil (at p ts)) 0 1 → cond c 1 0 + times p (others d.node (firsts ts)) ≡ cond (is_nil (cond b (d.said ∷ at p ts) (at p ts))) 0 1
    go true e true f k ih = omega (arith, k)
    go true e false f k ih = let w = same-sym d.node p e in cc
    go false e true f k ih = let w = same-sym p d.node f in cc
    go false e false f k ih = omega (arith, k, ih)

-- the nodes with one more entry
pub firsts-snoc : (p : Path) (v : Value) (ts : List Entry) → firsts (ts ++ entry p v ∷ []) ≡ cond (is_nil (at p ts)) (firsts ts ++ p ∷ []) (firsts ts)
firsts-snoc p v [] = refl
firsts-snoc p v (d ∷ ts) = ap (λ l. d.node ∷ others d.node l) (firsts-snoc p v ts) ∙ go (same d.node p) refl (at p ts)
  where
    tail : (b : Bool) → same d.node p ≡ b → others d.node (firsts ts ++ p ∷ []) ≡ others d.node (firsts ts) ++ cond (not b) (p ∷ []) []
    tail b e = keep_append (λ q. not (same d.node q)) (firsts ts) (p ∷ []) ∙ ap (λ c. others d.node (firsts ts) ++ cond (not c) (p ∷ []) []) e

    go : (b : Bool) → same d.node p ≡ b → (vs : List Value) → ◌≡◌ {A = List Path} (d.node ∷ others d.node (cond (is_nil vs) (firsts ts ++ p ∷ []) (firsts ts)))
        (cond (is_nil (cond b (d.said ∷ vs) vs)) ((d.node ∷ others d.node (firsts ts)) ++ p ∷ []) (d.node ∷ others d.node (firsts ts)))
    go true e [] = ap (λ l. d.node ∷ l) (tail true e ∙ append-nil (others d.node (firsts ts)))
    go true e (u ∷ us) = refl
    go false e [] = ap (λ l. d.node ∷ l) (tail false e)
    go false e (u ∷ us) = refl

-- one term is raised, for each time that its node is there
raised : (p : Path) (g h : Path → ℕ) (more : ℕ) → ((q : Path) → same p q ≡ false → g q ≡ h q) → g p ≡ h p + more → (qs : List Path) → total g qs ≡ total h qs + times p qs * more
raised p g h more off on [] = omega (arith, zero-mul more)
raised p g h more off on (q ∷ qs) = go (same p q) refl (raised p g h more off on qs)
  where
    go : (b : Bool) → same p q ≡ b → total g qs ≡ total h qs + times p qs * more → g q + total g qs ≡ h q + total h qs + (cond b 1 0 + times p qs) * more
    go true e ih = omega (arith, ih, add-mul 1 (times p qs) more, one-mul more, ap g (same_true p q e), ap h (same_true p q e), on)
    go false e ih = omega (arith, ih, add-mul 0 (times p qs) more, zero-mul more, off q e)

-- the nodes that get a record with one more entry
pub length-added-one : (ts : List Entry) (e : Entry) → length (added ts e) ≡ length (marked (at e.node ts) e.node (kind e.said)) + new_branch (had (λ i. false) (at e.node ts)) (branch_of e.said)
length-added-one ts e = length-append (marked (at e.node ts) e.node (kind e.said)) _ ∙ ap (λ n. length (marked (at e.node ts) e.node (kind e.said)) + n) (length-child (had (λ i. false) (at e.node ts)) e.node (branch_of e.said))

-- what one more entry takes
records-snoc : (ts : List Entry) (p : Path) (v : Value) → records_of (ts ++ entry p v ∷ []) ≡ records_of ts + length (added ts (entry p v))
records-snoc ts p v = go (at p ts) refl
  where
    here : records_at (at p (ts ++ entry p v ∷ [])) ≡ records_at (at p ts) + (length (marked (at p ts) p (kind v)) + new_branch (had (λ i. false) (at p ts)) (branch_of v))
    here = ap records_at (at_on p v ts) ∙ records-at p (at p ts) v

    most : total (λ q. records_at (at q (ts ++ entry p v ∷ []))) (firsts ts) ≡ records_of ts + times p (firsts ts) * (length (marked (at p ts) p (kind v)) + new_branch (had (λ i. false) (at p ts)) (branch_of v))
    most = raised p (λ q. records_at (at q (ts ++ entry p v ∷ []))) (λ q. records_at (at q ts)) _ (λ q e. ap records_at (at_off p q v ts e)) here (firsts ts)

    go : (vs : List Value) → at p ts ≡ vs → records_of (ts ++ entry p v ∷ []) ≡ records_of ts + length (added ts (entry p v))
    go [] e =
        let nodes : firsts (ts ++ entry p v ∷ []) ≡ firsts ts ++ p ∷ [] = firsts-snoc p v ts ∙ ap (λ vs. cond (is_nil vs) (firsts ts ++ p ∷ []) (firsts ts)) e in
        let once : times p (firsts ts) ≡ 0 = times-firsts p ts ∙ ap (λ vs. cond {A = ℕ} (is_nil vs) 0 1) e in
        let all = ap (total (λ q. records_at (at q (ts ++ entry p v ∷ [])))) nodes ∙ total-append (λ q. records_at (at q (ts ++ entry p v ∷ []))) (firsts ts) (p ∷ []) in
        omega (arith, all, most, rw (once, zero-mul) at most, here, ap records_at e, length-added-one ts (entry p v))
    go (u ∷ us) e =
        let nodes : firsts (ts ++ entry p v ∷ []) ≡ firsts ts = firsts-snoc p v ts ∙ ap (λ vs. cond (is_nil vs) (firsts ts ++ p ∷ []) (firsts ts)) e in
        let once : times p (firsts ts) ≡ 1 = times-firsts p ts ∙ ap (λ vs. cond {A = ℕ} (is_nil vs) 0 1) e in
        omega (arith, ap (total (λ q. records_at (at q (ts ++ entry p v ∷ [])))) nodes, rw (once, one-mul) at most, length-added-one ts (entry p v))

-- ---- all entries

-- the records of some entries, and of more
pub length-added : (ts es : List Entry) → length (added_by ts es) + records_of ts ≡ records_of (ts ++ es)
length-added ts [] = omega (arith, ap records_of (append-nil ts))
length-added ts (e ∷ es) =
    omega (arith, length-append (added ts e) (added_by (ts ++ e ∷ []) es), length-added (ts ++ e ∷ []) es, records-snoc ts e.node e.said, ap records_of (append_assoc ts (e ∷ []) es))

pub length-nodes : (ts : List Entry) → length (nodes_of ts) ≡ 1 + records_of ts
length-nodes ts = omega (arith, length-added [] ts)

-- ---- no node twice

pub times-append : (q : Path) (xs ys : List Path) → times q (xs ++ ys) ≡ times q xs + times q ys
times-append q [] ys = omega arith
times-append q (x ∷ xs) ys = omega (arith, times-append q xs ys)

same-comm : (p q : Path) → same p q ≡ same q p
same-comm p q = go (same p q) refl (same q p) refl
  where
    go : (b : Bool) → same p q ≡ b → (c : Bool) → same q p ≡ c → b ≡ c
    go true d true e = refl
    go true d false e = let w = same-sym p q d in cc
    go false d true e = let w = same-sym q p e in cc
    go false d false e = refl

-- children of another node
fields-off : (q p : Path) → ((t : Step) → same q (p ▹ t) ≡ false) → (i n : ℕ) → times q (fields_from p i n) ≡ 0
fields-off q p off i zero = refl
fields-off q p off i (suc n) = rw (off (field i)) (omega (arith, fields-off q p off (suc i) n))

brought-off : (q p : Path) → ((t : Step) → same q (p ▹ t) ≡ false) → (K : Kind) → times q (brought p K) ≡ 0
brought-off q p off (SCALAR k) = refl
brought-off q p off TEXT = refl
brought-off q p off SEQ = rw (off elem) refl
brought-off q p off MAP = rw (off key, off value) refl
brought-off q p off ENUM = refl
brought-off q p off UNIT = refl
brought-off q p off (TUPLE n) = fields-off q p off 0 n

child-off : (q p : Path) → ((t : Step) → same q (p ▹ t) ≡ false) → (seen : ℕ → Bool) (b : Branch) → times q (new_child seen p b) ≡ 0
child-off q p off seen unbranched = refl
child-off q p off seen (branch i) = go (seen i)
  where
    go : (b : Bool) → times q (cond b [] ((p ▹ alt i) ∷ [])) ≡ 0
    go true = refl
    go false = rw (off (alt i)) refl

marked-off : (q p : Path) → ((t : Step) → same q (p ▹ t) ≡ false) → (vs : List Value) (K : Kind) → times q (marked vs p K) ≡ 0
marked-off q p off [] K = brought-off q p off K
marked-off q p off (v ∷ vs) K = refl

added-off : (q : Path) (ts : List Entry) (e : Entry) → ((t : Step) → same q (e.node ▹ t) ≡ false) → times q (added ts e) ≡ 0
added-off q ts e off =
    times-append q (marked (at e.node ts) e.node (kind e.said)) _
    ∙ omega (arith, marked-off q e.node off (at e.node ts) (kind e.said), child-off q e.node off (had (λ i. false) (at e.node ts)) (branch_of e.said))

-- the children that a node's values us bring, after its values vs
unfoldable pub spawned : Path → List Value → List Value → List Path
spawned r vs [] = []
spawned r vs (u ∷ us) = (marked vs r (kind u) ++ new_child (had (λ i. false) vs) r (branch_of u)) ++ spawned r (vs ++ u ∷ []) us

-- a node's children come with its own values alone
pub times-spawned : (r : Path) (s : Step) (ts es : List Entry) → times (r ▹ s) (added_by ts es) ≡ times (r ▹ s) (spawned r (at r ts) (at r es))
unfolding spawned
times-spawned r s ts [] = refl
times-spawned r s ts (e ∷ es) = times-append (r ▹ s) (added ts e) (added_by (ts ++ e ∷ []) es) ∙ go (same e.node r) refl (times-spawned r s (ts ++ e ∷ []) es ∙ ap (λ (vs : List Value). times (r ▹ s) (spawned r vs (at r es))) (at-append r ts (e ∷ [])))
  where
    go : (b : Bool) → same e.node r ≡ b → times (r ▹ s) (added_by (ts ++ e ∷ []) es) ≡ times (r ▹ s) (spawned r (at r ts ++ cond b (e.said ∷ []) []) (at r es))
        → times (r ▹ s) (added ts e) + times (r ▹ s) (added_by (ts ++ e ∷ []) es) ≡ times (r ▹ s) (spawned r (at r ts) (cond b (e.said ∷ at r es) (at r es)))
    go true k ih =
        let here : List Path = marked (at r ts) r (kind e.said) ++ new_child (had (λ i. false) (at r ts)) r (branch_of e.said) in
        let own : times (r ▹ s) (added ts e) ≡ times (r ▹ s) here =
        ap (λ (o : Path). times (r ▹ s) (marked (at o ts) o (kind e.said) ++ new_child (had (λ i. false) (at o ts)) o (branch_of e.said))) (same_true e.node r k) in
        omega (arith, own, ih, times-append (r ▹ s) here (spawned r (at r ts ++ e.said ∷ []) (at r es)))
    go false k ih = omega (arith, added-off (r ▹ s) ts e (λ t. rw (same-comm r e.node ∙ k) refl), ih, ap (λ (vs : List Value). times (r ▹ s) (spawned r vs (at r es))) (append-nil (at r ts)))

-- ---- the children of one node

-- the children of new indices
new_children : (ℕ → Bool) → Path → List Value → List Path
new_children seen r [] = []
new_children seen r (u ∷ us) = new_child seen r (branch_of u) ++ new_children (with_branch seen (branch_of u)) r us

-- each index that comes gets one child, and none where it is there already
children-once : (r : Path) (i : ℕ) (seen : ℕ → Bool) (us : List Value) → times (r ▹ alt i) (new_children seen r us) + cond (seen i) 1 0 ≡ cond (had seen us i) 1 0
unfolding new_children
children-once r i seen [] = omega arith
children-once r i seen (u ∷ us) = go (branch_of u) (λ f. children-once r i f us)
  where
    go : (b : Branch) → ((f : ℕ → Bool) → times (r ▹ alt i) (new_children f r us) + cond (f i) 1 0 ≡ cond (had f us i) 1 0)
        → times (r ▹ alt i) (new_child seen r b ++ new_children (with_branch seen b) r us) + cond (seen i) 1 0 ≡ cond (had (with_branch seen b) us i) 1 0
    go unbranched ih = ih seen
    go (branch j) ih = omega (arith, times-append (r ▹ alt i) (new_child seen r (branch j)) (new_children (with_branch seen (branch j)) r us), ih (with_branch seen (branch j)), one (cases_eq i j))
      where
        -- the child of j counts for i only where they are one
        one : (i ≡ j) ⊎ (i ≡ j → ⊥) → times (r ▹ alt i) (new_child seen r (branch j)) + cond (seen i) 1 0 ≡ cond (with_branch seen (branch j) i) 1 0
        one (inl e) = rw e (rw (eq-eqb j j refl) (both (seen j) refl))
          where
            both : (b : Bool) → seen j ≡ b → times (r ▹ alt j) (cond b [] ((r ▹ alt j) ∷ [])) + cond b 1 0 ≡ 1
            both true k = omega arith
            both false k = rw (same_self r, eq-eqb j j refl) (omega arith)
        one (inr n) = rw (ne_eqb j i (λ e. n (sym e))) (omega (arith, apart (seen j)))
          where
            apart : (b : Bool) → times (r ▹ alt i) (cond b [] ((r ▹ alt j) ∷ [])) ≡ 0
            apart true = refl
            apart false = rw (same_self r, ne_eqb i j n) refl

-- an index counts as a branch alone
children-none : (r : Path) (s : Step) → ((i : ℕ) → alike s (alt i) ≡ false) → (seen : ℕ → Bool) (us : List Value) → times (r ▹ s) (new_children seen r us) ≡ 0
unfolding new_children
children-none r s off seen [] = refl
children-none r s off seen (u ∷ us) = times-append (r ▹ s) (new_child seen r (branch_of u)) (new_children (with_branch seen (branch_of u)) r us) ∙ omega (arith, go (branch_of u), children-none r s off (with_branch seen (branch_of u)) us)
  where
    at-branch : (i : ℕ) (b : Bool) → times (r ▹ s) (cond b [] ((r ▹ alt i) ∷ [])) ≡ 0
    at-branch i true = refl
    at-branch i false = rw (same_self r, off i) refl

    go : (b : Branch) → times (r ▹ s) (new_child seen r b) ≡ 0
    go unbranched = refl
    go (branch i) = at-branch i (seen i)

at_most : (b : Bool) → cond b 1 0 ≤ 1
at_most true = omega arith
at_most false = omega arith

-- the fields stand in the list as often as they are owed
times-fields : (q p : Path) (i n : ℕ) → times q (fields_from p i n) ≡ rest p i n q
times-fields q p i zero = refl
times-fields q p i (suc n) = rw (same-comm q (p ▹ field i)) (omega (arith, times-fields q p (suc i) n))

-- a tuple's fields, each once
fields-all : (r : Path) (s : Step) (n : ℕ) → times (r ▹ s) (fields_from r 0 n) ≡ field_of n s
fields-all r s n = times-fields (r ▹ s) r 0 n ∙ rest_all r r n s ∙ rw (same_self r) refl

field-most : (n : ℕ) (s : Step) → field_of n s ≤ 1
field-most n elem = omega arith
field-most n key = omega arith
field-most n value = omega arith
field-most n (field i) = at_most (ltb i n)
field-most n (alt i) = omega arith

-- a mark brings each child at most once
brought-once : (r : Path) (s : Step) (K : Kind) → times (r ▹ s) (brought r K) ≤ 1
brought-once r s (SCALAR k) = omega arith
brought-once r s TEXT = omega arith
brought-once r elem SEQ = rw (same_self r) (omega arith)
brought-once r key SEQ = rw (same_self r) (omega arith)
brought-once r value SEQ = rw (same_self r) (omega arith)
brought-once r (field j) SEQ = rw (same_self r) (omega arith)
brought-once r (alt j) SEQ = rw (same_self r) (omega arith)
brought-once r elem MAP = rw (same_self r) (omega arith)
brought-once r key MAP = rw (same_self r) (omega arith)
brought-once r value MAP = rw (same_self r) (omega arith)
brought-once r (field j) MAP = rw (same_self r) (omega arith)
brought-once r (alt j) MAP = rw (same_self r) (omega arith)
brought-once r s ENUM = omega arith
brought-once r s UNIT = omega arith
brought-once r s (TUPLE n) = omega (arith, fields-all r s n, field-most n s)

-- and no branch
brought-alt : (r : Path) (i : ℕ) (K : Kind) → times (r ▹ alt i) (brought r K) ≡ 0
brought-alt r i (SCALAR k) = refl
brought-alt r i TEXT = refl
brought-alt r i SEQ = rw (same_self r) refl
brought-alt r i MAP = rw (same_self r) refl
brought-alt r i ENUM = refl
brought-alt r i UNIT = refl
brought-alt r i (TUPLE n) = fields-all r (alt i) n

-- the indices with one more value
pub had-snoc : (seen : ℕ → Bool) (vs : List Value) (u : Value) → ◌≡◌ {A = ℕ → Bool} (λ i. had seen (vs ++ u ∷ []) i) (λ i. with_branch (λ j. had seen vs j) (branch_of u) i)
had-snoc seen [] u = refl
had-snoc seen (v ∷ vs) u = had-snoc (with_branch seen (branch_of v)) vs u

-- after the first value, new indices alone bring a child
spawned-past : (r : Path) (v : Value) (vs us : List Value) → spawned r (v ∷ vs) us ≡ new_children (λ i. had (λ i. false) (v ∷ vs) i) r us
unfolding spawned new_children
spawned-past r v vs [] = refl
spawned-past r v vs (u ∷ us) =
    ap (λ l. new_child (had (λ i. false) (v ∷ vs)) r (branch_of u) ++ l) (spawned-past r v (vs ++ u ∷ []) us ∙ ap (λ (f : ℕ → Bool). new_children f r us) (had-snoc (λ i. false) (v ∷ vs) u))

-- the first value brings its mark's children too
spawned-first : (r : Path) (u : Value) (us : List Value) → spawned r [] (u ∷ us) ≡ brought r (kind u) ++ new_children (λ i. false) r (u ∷ us)
unfolding spawned new_children
spawned-first r u us =
    append_assoc (brought r (kind u)) (new_child (λ i. false) r (branch_of u)) (spawned r (u ∷ []) us)
    ∙ ap (λ l. brought r (kind u) ++ (new_child (λ i. false) r (branch_of u) ++ l)) (spawned-past r u [] us)

-- a node brings the child of each of its indices, once
pub spawned-alt : (r : Path) (i : ℕ) (us : List Value) → times (r ▹ alt i) (spawned r [] us) ≡ cond (had (λ j. false) us i) 1 0
unfolding spawned
spawned-alt r i [] = refl
spawned-alt r i (u ∷ us) =
    omega (arith, ap (times (r ▹ alt i)) (spawned-first r u us), times-append (r ▹ alt i) (brought r (kind u)) (new_children (λ i. false) r (u ∷ us)), brought-alt r i (kind u), children-once r i (λ i. false) (u ∷ us))

-- a node brings each child at most once
spawned-once : (r : Path) (s : Step) (us : List Value) → times (r ▹ s) (spawned r [] us) ≤ 1
unfolding spawned
spawned-once r s [] = omega arith
spawned-once r s (u ∷ us) = omega (arith, ap (times (r ▹ s)) (spawned-first r u us), times-append (r ▹ s) (brought r (kind u)) (new_children (λ i. false) r (u ∷ us)), both s)
  where
    both : (t : Step) → times (r ▹ t) (brought r (kind u)) + times (r ▹ t) (new_children (λ i. false) r (u ∷ us)) ≤ 1
    both elem = omega (arith, brought-once r elem (kind u), children-none r elem (λ i. refl) (λ i. false) (u ∷ us))
    both key = omega (arith, brought-once r key (kind u), children-none r key (λ i. refl) (λ i. false) (u ∷ us))
    both value = omega (arith, brought-once r value (kind u), children-none r value (λ i. refl) (λ i. false) (u ∷ us))
    both (field j) = omega (arith, brought-once r (field j) (kind u), children-none r (field j) (λ i. refl) (λ i. false) (u ∷ us))
    both (alt i) = omega (arith, brought-alt r i (kind u), children-once r i (λ i. false) (u ∷ us), at_most (had (λ i. false) (u ∷ us) i))

-- the root is nobody's child
root_none : (ts es : List Entry) → times root (added_by ts es) ≡ 0
root_none ts [] = refl
root_none ts (e ∷ es) = times-append root (added ts e) (added_by (ts ++ e ∷ []) es) ∙ omega (arith, added-off root ts e (λ t. refl), root_none (ts ++ e ∷ []) es)

pub once : (q : Path) (ts : List Entry) → times q (nodes_of ts) ≤ 1
once root ts = omega (arith, root_none [] ts)
once (r ▹ s) ts = omega (arith, times-spawned r s [] ts, spawned-once r s (at r ts))

-- ---- each node that has a value, or at which one is awaited

-- a mark brings each child that a cell of the kind demands, but branches
brought-some : (r : Path) (s : Step) (K : Kind) (c : Cell) → ((i : ℕ) → alike s (alt i) ≡ false) → 1 ≤ demand K s c → 1 ≤ times (r ▹ s) (brought r K)
brought-some r s (SCALAR k) c off h = omega (arith, h)
brought-some r s TEXT c off h = omega (arith, h)
brought-some r s UNIT c off h = omega (arith, h)
brought-some r elem SEQ c off h = rw (same_self r) (omega arith)
brought-some r key SEQ c off h = omega (arith, h)
brought-some r value SEQ c off h = omega (arith, h)
brought-some r (field j) SEQ c off h = omega (arith, h)
brought-some r (alt j) SEQ c off h = omega (arith, h)
brought-some r elem MAP c off h = omega (arith, h)
brought-some r key MAP c off h = rw (same_self r) (omega arith)
brought-some r value MAP c off h = rw (same_self r) (omega arith)
brought-some r (field j) MAP c off h = omega (arith, h)
brought-some r (alt j) MAP c off h = omega (arith, h)
brought-some r elem ENUM c off h = omega (arith, h)
brought-some r key ENUM c off h = omega (arith, h)
brought-some r value ENUM c off h = omega (arith, h)
brought-some r (field j) ENUM c off h = omega (arith, h)
brought-some r (alt j) ENUM c off h = omega (arith, ap (λ b. cond {A = ℕ} b 1 0) (sym (off j) ∙ eq-eqb j j refl))
brought-some r s (TUPLE n) c off h = omega (arith, h, fields-all r s n)

-- .. so do values of the kind
brought-demanded : (r : Path) (s : Step) (K : Kind) (vs : List Value) → ((i : ℕ) → alike s (alt i) ≡ false) → AllByRecursion (λ v. kind v ≡ K) vs → 1 ≤ total (demands s) vs → 1 ≤ times (r ▹ s) (brought r K)
brought-demanded r s K [] off k h = omega (arith, h)
brought-demanded r s K (v ∷ vs) off k h = go (demands s v) refl (brought-demanded r s K vs off k.1)
  where
    go : (n : ℕ) → demands s v ≡ n → (1 ≤ total (demands s) vs → 1 ≤ times (r ▹ s) (brought r K)) → 1 ≤ times (r ▹ s) (brought r K)
    go zero e ih = ih (omega (arith, e, h))
    go (suc n) e ih = subst (λ (k : Kind). 1 ≤ times (r ▹ s) (brought r k)) k.0 (brought-some r s (kind v) (cell v) off (omega (arith, e)))

-- whether a branch is that of i
toward : ℕ → Branch → ℕ
toward i unbranched = 0
toward i (branch j) = cond (eqb j i) 1 0

demands-toward : (i : ℕ) (v : Value) → demands (alt i) v ≡ toward i (branch_of v)
unfolding toward
demands-toward i (scalar k b) = refl
demands-toward i (text bs) = refl
demands-toward i unit = refl
demands-toward i none = refl
demands-toward i some = refl
demands-toward i (variant j) = refl
demands-toward i (seq n) = refl
demands-toward i (map n) = refl
demands-toward i (tuple n) = refl

-- a branch that a value demands comes, or is there already
children-some : (r : Path) (i : ℕ) (seen : ℕ → Bool) (vs : List Value) → 1 ≤ total (demands (alt i)) vs → 1 ≤ times (r ▹ alt i) (new_children seen r vs) + cond (seen i) 1 0
unfolding new_children toward
children-some r i seen [] h = omega (arith, h)
children-some r i seen (v ∷ vs) h = go (branch_of v) (omega (arith, h, demands-toward i v)) (λ f. children-some r i f vs)
  where
    go : (b : Branch) → 1 ≤ toward i b + total (demands (alt i)) vs → ((f : ℕ → Bool) → 1 ≤ total (demands (alt i)) vs → 1 ≤ times (r ▹ alt i) (new_children f r vs) + cond (f i) 1 0)
        → 1 ≤ times (r ▹ alt i) (new_child seen r b ++ new_children (with_branch seen b) r vs) + cond (seen i) 1 0
    go unbranched k ih = ih seen (omega (arith, k))
    go (branch j) k ih = omega (arith, times-append (r ▹ alt i) (new_child seen r (branch j)) (new_children (with_branch seen (branch j)) r vs), which (cases_eq j i))
      where
        own : (b : Bool) → 1 ≤ times (r ▹ alt j) (cond b [] ((r ▹ alt j) ∷ [])) + cond b 1 0
        own true = omega arith
        own false = rw (same_self r, eq-eqb j j refl) (omega arith)

        which : (j ≡ i) ⊎ (j ≡ i → ⊥) → 1 ≤ times (r ▹ alt i) (new_child seen r (branch j)) + times (r ▹ alt i) (new_children (with_branch seen (branch j)) r vs) + cond (seen i) 1 0
        which (inl e) = omega (arith, subst (λ (m : ℕ). 1 ≤ times (r ▹ alt m) (cond (seen j) [] ((r ▹ alt j) ∷ [])) + cond (seen m) 1 0) e (own (seen j)))
        which (inr n) = let c = ne_eqb j i n in let d = rw c at k in let m = ih (with_branch seen (branch j)) (omega (arith, d)) in omega (arith, rw c at m)

-- a node brings every child that its values demand
spawned-some : (r : Path) (s : Step) (us : List Value) → OneKind us → 1 ≤ total (demands s) us → 1 ≤ times (r ▹ s) (spawned r [] us)
spawned-some r s [] k h = omega (arith, h)
spawned-some r s (u ∷ us) k h = omega (arith, ap (times (r ▹ s)) (spawned-first r u us), times-append (r ▹ s) (brought r (kind u)) (new_children (λ i. false) r (u ∷ us)), go s h)
  where
    go : (t : Step) → 1 ≤ total (demands t) (u ∷ us) → 1 ≤ times (r ▹ t) (brought r (kind u)) + times (r ▹ t) (new_children (λ i. false) r (u ∷ us))
    go elem d = omega (arith, brought-demanded r elem (kind u) (u ∷ us) (λ i. refl) (refl, k) d)
    go key d = omega (arith, brought-demanded r key (kind u) (u ∷ us) (λ i. refl) (refl, k) d)
    go value d = omega (arith, brought-demanded r value (kind u) (u ∷ us) (λ i. refl) (refl, k) d)
    go (field j) d = omega (arith, brought-demanded r (field j) (kind u) (u ∷ us) (λ i. refl) (refl, k) d)
    go (alt i) d = omega (arith, children-some r i (λ i. false) (u ∷ us) d)

-- a node with a value, or with one owed, has a record
needed : (sizes : Sizes) (cs : List Call) → Accepted sizes cs → (q : Path) → 1 ≤ length (at q (trace start cs)) + owes (places_after start cs) q → times q (nodes_of (trace start cs)) ≡ 1
needed sizes cs a root h = omega (arith, once root (trace start cs))
needed sizes cs a (r ▹ s) h =
    let k = accepted-held sizes cs a in
    let d : 1 ≤ total (demands s) (at r (trace start cs)) = omega (arith, h, balanced (r ▹ s) cs start k.runs) in
    omega (arith, once (r ▹ s) (trace start cs), times-spawned r s [] (trace start cs), spawned-some r s (at r (trace start cs)) (k.sound r).one-kind d)

pub visited : (sizes : Sizes) (cs : List Call) → Accepted sizes cs → (q : Path) → at q (trace start cs) ≢ [] → times q (nodes_of (trace start cs)) ≡ 1
visited sizes cs a q h = needed sizes cs a q (go (at q (trace start cs)) h)
  where
    go : (vs : List Value) → vs ≢ [] → 1 ≤ length vs + owes (places_after start cs) q
    go [] k = absurd (k refl)
    go (v ∷ vs) k = omega arith

pub awaited : (sizes : Sizes) (cs : List Call) → Accepted sizes cs → (f g : Place) (fs : List Place) (q : Path) → places_after start cs ≡ f ∷ fs → next f ≡ there q g → times q (nodes_of (trace start cs)) ≡ 1
awaited sizes cs a f g fs q places n =
    let owing : owed q f ≡ here q 1 q + owed q g = subst (Owing q f) n (next-owed q f) in
    needed sizes cs a q (omega (arith, ap (λ (gs : List Place). owes gs q) places, rw (same_self q) at owing))

pub allocation : Allocation
allocation = record { count = length-nodes; once = λ ts q. once q ts; visited = visited; awaited = awaited }
