-- What is still to be taken of the tables: sums over all nodes, of which each call lowers one.
use Rattle.std.proofs.Common.{◌≡◌, ℕ, ◌+◌, ◌≤◌, Bool, true, false, cond, not, ◌||◌, eqb, List, [], ◌∷◌, ◌++◌, sym, refl, ap, ◌∙◌, subst, ap₂, arith}
use Rattle.std.proofs.lemmas.Bool.Decides.{nat_tests}
use Rattle.document.specs.Bytes.{others, firsts}
use Rattle.document.specs.Calls.{Value, kind, total}
use Rattle.document.specs.Entries.{Entry, entry, at}
use Rattle.document.specs.Nodes.{Path, ◌▹◌, alt, same}
use Rattle.document.specs.Tables.{cells, cells_of, takes, Branch, unbranched, branch, branch_of, new_branch, with_branch, branches, marks}
use Rattle.std.specs.List.{AllByRecursion}
use Rattle.document.proofs.Paths.{same_self, same_true}
use Rattle.document.proofs.Between.{unseen, is_nil, not-nil, at_here, at-past, at_on, at_off}

-- ---- sums over nodes

abbrev pub has : Path → List Path → Bool
has p [] = false
has p (q ∷ qs) = same p q || has p qs

-- a sum of terms that are no greater
pub total_mono : {X : Type 0} (f g : X → ℕ) → ((x : X) → f x ≤ g x) → (xs : List X) → total f xs ≤ total g xs
total_mono f g le [] = omega arith
total_mono f g le (x ∷ xs) = omega (arith, le x, total_mono f g le xs)

-- one term is lowered
lowered : (g h : Path → ℕ) → ((q : Path) → h q ≤ g q) → (p : Path) (qs : List Path) → has p qs ≡ true → total h qs + g p ≤ h p + total g qs
lowered g h le p [] e = cc
lowered g h le p (q ∷ qs) e = go (same p q) refl e (lowered g h le p qs)
  where
    go : (b : Bool) → same p q ≡ b → (b || has p qs) ≡ true → (has p qs ≡ true → total h qs + g p ≤ h p + total g qs) → total h (q ∷ qs) + g p ≤ h p + total g (q ∷ qs)
    go true s k ih = omega (arith, total_mono h g le qs, ap g (same_true p q s), ap h (same_true p q s))
    go false s k ih = omega (arith, le q, ih k)

has-others : (r p : Path) (qs : List Path) → same r p ≡ false → has p qs ≡ true → has p (others r qs) ≡ true
has-others r p [] n e = e
has-others r p (q ∷ qs) n e = go (same r q) refl (same p q) refl e (has-others r p qs n)
  where
    go : (b : Bool) → same r q ≡ b → (c : Bool) → same p q ≡ c → (c || has p qs) ≡ true → (has p qs ≡ true → has p (others r qs) ≡ true) → has p (cond (not b) (q ∷ others r qs) (others r qs)) ≡ true
    go true s true k h ih = let z : same r p ≡ true = rw (same_true p q k) s in cc
    go true s false k h ih = ih h
    go false s true k h ih = rw k refl
    go false s false k h ih = rw k (ih h)

has-firsts : (p : Path) (es : List Entry) (v : Value) (vs : List Value) → at p es ≡ v ∷ vs → has p (firsts es) ≡ true
has-firsts p [] v vs e = cc
has-firsts p (d ∷ es) v vs e = go (same d.node p) refl e (has-firsts p es v vs)
  where
    go : (b : Bool) → same d.node p ≡ b → cond b (d.said ∷ at p es) (at p es) ≡ v ∷ vs → (at p es ≡ v ∷ vs → has p (firsts es) ≡ true) → (same p d.node || has p (others d.node (firsts es))) ≡ true
    go true s k ih = rw (same_true d.node p s, same_self p) refl
    go false s k ih = either (same p d.node) (has-others d.node p (firsts es) s (ih k))
      where
        either : (b : Bool) → has p (others d.node (firsts es)) ≡ true → (b || has p (others d.node (firsts es))) ≡ true
        either true h = refl
        either false h = h

-- ---- new indices

pub branches-same : (f g : ℕ → Bool) → ((i : ℕ) → f i ≡ g i) → (vs : List Value) → branches f vs ≡ branches g vs
branches-same f g e [] = refl
branches-same f g e (v ∷ vs) = ap₂ ◌+◌ (new (branch_of v)) (branches-same (with_branch f (branch_of v)) (with_branch g (branch_of v)) (with' (branch_of v)) vs)
  where
    new : (k : Branch) → new_branch f k ≡ new_branch g k
    new unbranched = refl
    new (branch i) = ap (λ b. cond {A = ℕ} b 0 1) (e i)

    with' : (k : Branch) (i : ℕ) → with_branch f k i ≡ with_branch g k i
    with' unbranched i = e i
    with' (branch j) i = ap (λ b. cond (eqb j i) true b) (e i)

kid-order : (f : ℕ → Bool) (i j k : ℕ) → with_branch (with_branch f (branch j)) (branch i) k ≡ with_branch (with_branch f (branch i)) (branch j) k
kid-order f i j k = go (eqb i k) (eqb j k)
  where
    go : (a b : Bool) → cond a true (cond b true (f k)) ≡ cond b true (cond a true (f k))
    go true true = refl
    go true false = refl
    go false true = refl
    go false false = refl

kid-pair : (f : ℕ → Bool) (i j : ℕ) → new_branch f (branch j) + new_branch (with_branch f (branch j)) (branch i) ≤ new_branch f (branch i) + new_branch (with_branch f (branch i)) (branch j)
kid-pair f i j = grind (arith, nat_tests)

-- an index that is there already saves one record at the most
pub branches-credit : (f : ℕ → Bool) (k : Branch) (vs : List Value) → branches f vs ≤ new_branch f k + branches (with_branch f k) vs
branches-credit f unbranched vs = omega arith
branches-credit f (branch i) [] = omega arith
branches-credit f (branch i) (v ∷ vs) = go (branch_of v) (λ g. branches-credit g (branch i) vs)
  where
    go : (k : Branch) → ((g : ℕ → Bool) → branches g vs ≤ new_branch g (branch i) + branches (with_branch g (branch i)) vs) → new_branch f k + branches (with_branch f k) vs ≤ new_branch f (branch i) + (new_branch (with_branch f (branch i)) k + branches (with_branch (with_branch f (branch i)) k) vs)
    go unbranched ih = omega (arith, ih f)
    go (branch j) ih =
        omega (arith, kid-pair f i j, ih (with_branch f (branch j)), branches-same (with_branch (with_branch f (branch j)) (branch i)) (with_branch (with_branch f (branch i)) (branch j)) (kid-order f i j) vs)

-- ---- what is still to be taken

abbrev pub slot_need : List Entry → List Entry → Path → ℕ
slot_need ps es q = cond (unseen ps q) (total cells (at q es)) 0

abbrev pub record_need : List Entry → List Entry → (Path → Bool) → Path → ℕ
record_need ps es mk q = cond (unseen ps q) (marks (at q es)) 0 + branches (λ i. mk (q ▹ alt i)) (at q es)

abbrev pub slots_left : List Entry → List Entry → List Entry → ℕ
slots_left ts ps es = total (slot_need ps es) (firsts ts)

abbrev pub records_left : List Entry → List Entry → List Entry → (Path → Bool) → ℕ
records_left ts ps es mk = total (record_need ps es mk) (firsts ts)

pub has-whole : (ts ps es : List Entry) (p : Path) (v : Value) → at p ts ≡ at p ps ++ at p (entry p v ∷ es) → has p (firsts ts) ≡ true
has-whole ts ps es p v w = go (at p ps) (w ∙ ap (λ l. at p ps ++ l) (at_here p v es))
  where
    go : (xs : List Value) → at p ts ≡ xs ++ v ∷ at p es → has p (firsts ts) ≡ true
    go [] e = has-firsts p ts v (at p es) e
    go (x ∷ xs) e = has-firsts p ts x (xs ++ v ∷ at p es) e

seen-now : (ps : List Entry) (p : Path) (v : Value) → unseen (ps ++ entry p v ∷ []) p ≡ false
seen-now ps p v = ap is_nil (at_on p v ps) ∙ not-nil (at p ps) v

pub slots-step : (ts ps es : List Entry) (p : Path) (v : Value) → has p (firsts ts) ≡ true
    → slots_left ts (ps ++ entry p v ∷ []) es + cond (unseen ps p) (total cells (v ∷ at p es)) 0 ≤ slots_left ts ps (entry p v ∷ es)
slots-step ts ps es p v has' =
    let l : total (slot_need (ps ++ entry p v ∷ []) es) (firsts ts) + slot_need ps (entry p v ∷ es) p ≤ slot_need (ps ++ entry p v ∷ []) es p + total (slot_need ps (entry p v ∷ es)) (firsts ts) =
    lowered (slot_need ps (entry p v ∷ es)) (slot_need (ps ++ entry p v ∷ []) es) le p (firsts ts) has' in
    omega (arith, l, at_p, now)
  where
    now : slot_need (ps ++ entry p v ∷ []) es p ≡ 0
    now = rw (seen-now ps p v) refl

    at_p : slot_need ps (entry p v ∷ es) p ≡ cond (unseen ps p) (total cells (v ∷ at p es)) 0
    at_p = rw (at_here p v es) refl

    le : (q : Path) → slot_need (ps ++ entry p v ∷ []) es q ≤ slot_need ps (entry p v ∷ es) q
    le q = go (same p q) refl
      where
        go : (b : Bool) → same p q ≡ b → slot_need (ps ++ entry p v ∷ []) es q ≤ slot_need ps (entry p v ∷ es) q
        go true e = omega (arith, now, ap (slot_need (ps ++ entry p v ∷ []) es) (same_true p q e))
        go false e = rw (at-past p q v es e, at_off p q v ps e) (omega arith)

pub records-step : (ts ps es : List Entry) (p : Path) (v : Value) (mk nk : Path → Bool) → has p (firsts ts) ≡ true
    → ((q : Path) → same p q ≡ false → (i : ℕ) → nk (q ▹ alt i) ≡ mk (q ▹ alt i))
    → branches (λ i. nk (p ▹ alt i)) (at p es) ≤ branches (λ i. mk (p ▹ alt i)) (v ∷ at p es)
    → records_left ts (ps ++ entry p v ∷ []) es nk + cond (unseen ps p) (takes (kind v)) 0 + branches (λ i. mk (p ▹ alt i)) (v ∷ at p es)
    ≤ branches (λ i. nk (p ▹ alt i)) (at p es) + records_left ts ps (entry p v ∷ es) mk
records-step ts ps es p v mk nk has' off less =
    let l : total (record_need (ps ++ entry p v ∷ []) es nk) (firsts ts) + record_need ps (entry p v ∷ es) mk p
    ≤ record_need (ps ++ entry p v ∷ []) es nk p + total (record_need ps (entry p v ∷ es) mk) (firsts ts) =
    lowered (record_need ps (entry p v ∷ es) mk) (record_need (ps ++ entry p v ∷ []) es nk) le p (firsts ts) has' in
    omega (arith, l, at_p, now)
  where
    now : record_need (ps ++ entry p v ∷ []) es nk p ≡ 0 + branches (λ i. nk (p ▹ alt i)) (at p es)
    now = rw (seen-now ps p v) refl

    at_p : record_need ps (entry p v ∷ es) mk p ≡ cond (unseen ps p) (takes (kind v)) 0 + branches (λ i. mk (p ▹ alt i)) (v ∷ at p es)
    at_p = rw (at_here p v es) refl

    own : record_need (ps ++ entry p v ∷ []) es nk p ≤ record_need ps (entry p v ∷ es) mk p
    own = omega (arith, now, at_p, less)

    le : (q : Path) → record_need (ps ++ entry p v ∷ []) es nk q ≤ record_need ps (entry p v ∷ es) mk q
    le q = go (same p q) refl
      where
        go : (b : Bool) → same p q ≡ b → record_need (ps ++ entry p v ∷ []) es nk q ≤ record_need ps (entry p v ∷ es) mk q
        go true e = subst (λ (o : Path). record_need (ps ++ entry p v ∷ []) es nk o ≤ record_need ps (entry p v ∷ es) mk o) (same_true p q e) own
        go false e = rw (at-past p q v es e, at_off p q v ps e) (omega (arith, branches-same (λ i. nk (q ▹ alt i)) (λ i. mk (q ▹ alt i)) (off q e) (at q es)))

-- ---- at the start

some-less : (g : Path → ℕ) (p : Path) (qs : List Path) → total g (others p qs) ≤ total g qs
some-less g p [] = omega arith
some-less g p (q ∷ qs) = let h = some-less g p qs in grind arith

one_less : (g : Path → ℕ) (p : Path) (qs : List Path) → has p qs ≡ true → g p + total g (others p qs) ≤ total g qs
one_less g p [] e = cc
one_less g p (q ∷ qs) e = go (same p q) refl e (one_less g p qs)
  where
    go : (b : Bool) → same p q ≡ b → (b || has p qs) ≡ true → (has p qs ≡ true → g p + total g (others p qs) ≤ total g qs)
        → g p + total g (cond (not b) (q ∷ others p qs) (others p qs)) ≤ g q + total g qs
    go true s k ih = omega (arith, ap g (same_true p q s), some-less g p qs)
    go false s k ih = omega (arith, ih k)

others_same : (g h : Path → ℕ) (p : Path) → ((q : Path) → same p q ≡ false → h q ≡ g q) → (qs : List Path) → total h (others p qs) ≡ total g (others p qs)
others_same g h p e [] = refl
others_same g h p e (q ∷ qs) = go (same p q) refl (others_same g h p e qs)
  where
    go : (b : Bool) → same p q ≡ b → total h (others p qs) ≡ total g (others p qs)
        → total h (cond (not b) (q ∷ others p qs) (others p qs)) ≡ total g (cond (not b) (q ∷ others p qs) (others p qs))
    go true s ih = ih
    go false s ih = ap₂ ◌+◌ (e q s) ih

pub cells-by-node : (es : List Entry) → total (λ q. total cells (at q es)) (firsts es) ≤ cells_of es
cells-by-node [] = omega arith
cells-by-node (d ∷ es) =
    omega (arith, cells-by-node es, rest (at d.node es) refl, others_same (λ q. total cells (at q es)) (λ q. total cells (at q (d ∷ es))) d.node past (firsts es), here)
  where
    past : (q : Path) → same d.node q ≡ false → total cells (at q (d ∷ es)) ≡ total cells (at q es)
    past q e = ap (total cells) (at-past d.node q d.said es e)

    here : total cells (at d.node (d ∷ es)) ≡ cells d.said + total cells (at d.node es)
    here = ap (total cells) (at_here d.node d.said es)

    rest : (xs : List Value) → at d.node es ≡ xs
        → total cells (at d.node es) + total (λ q. total cells (at q es)) (others d.node (firsts es)) ≤ total (λ q. total cells (at q es)) (firsts es)
    rest [] e = omega (arith, ap (total cells) e, some-less (λ q. total cells (at q es)) d.node (firsts es))
    rest (x ∷ xs) e = one_less (λ q. total cells (at q es)) d.node (firsts es) (has-firsts d.node es x xs e)

-- ---- what holds of each node that has values holds of each path

all-has : (P : Path → Type 0) (p : Path) (qs : List Path) → has p qs ≡ true → AllByRecursion P qs → P p
all-has P p [] e a = cc
all-has P p (q ∷ qs) e a = go (same p q) refl e (all-has P p qs)
  where
    go : (b : Bool) → same p q ≡ b → (b || has p qs) ≡ true → (has p qs ≡ true → AllByRecursion P qs → P p) → P p
    go true s k ih = subst P (sym (same_true p q s)) a.0
    go false s k ih = ih k a.1
