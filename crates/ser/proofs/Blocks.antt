-- The children that a mark brings stand side by side, from the first child on.
use Rattle.std.proofs.Common.{◌≡◌, ℕ, suc, ◌+◌, ◌<◌, Bool, true, false, cond, List, [], ◌∷◌, ◌++◌, length, get_or, sym, refl, ap, ◌∙◌, subst, append_assoc, arith, length-append, get_or-append-add}
use Rattle.std.specs.List.{AllByRecursion}
use Rattle.std.proofs.lemmas.List.{append-nil, get_or_append_left}
use Rattle.chain.specs.Chains.{Runs}
use Rattle.document.specs.Calls.{Value, kind}
use Rattle.document.specs.Nodes.{Path, root, same}
use Rattle.document.specs.Entries.{Entry, entry, at}
use Rattle.document.specs.Tables.{takes, branch_of}
use Rattle.document.specs.Records.{nodes_of, brought, marked, new_child, had, added}
use Rattle.document.proofs.Paths.{same_true}
use Rattle.document.proofs.Between.{at_on, at_off}
use Rattle.document.proofs.Allotting.{length-brought}
use Rattle.document.proofs.Growth.{nodes-snoc}
use Rattle.nodes.specs.Homes.{node_of, Home, is_child, places}
use Rattle.nodes.proofs.PlacesOf.{places-append}
use Rattle.nodes.proofs.Homes.{home-more}
use Rattle.ser.specs.Moves.{Sheets, node}
use Rattle.ser.specs.Held.{node_nexts, Holds}
use Rattle.ser.proofs.Growing.{places-none, childless, brought-kin}

-- the first of some records, 0 where there is none
abbrev pub head_of : List ℕ → ℕ
head_of [] = 0
head_of (k ∷ ks) = k

-- more records after a first one
head-append : (xs ys : List ℕ) → 0 < head_of xs → head_of (xs ++ ys) ≡ head_of xs
head-append [] ys h = absurd (omega arith)
head-append (x ∷ xs) ys h = refl

-- what holds of the values at p, whose first child is the record k
abbrev Block : List Path → Path → ℕ → List Value → Type 0
Block ns p k [] = Unit {0}
Block ns p k (v ∷ vs) = (j : ℕ) → j < takes (kind v) → Home ns (k + j) (get_or (brought p (kind v)) j root)

abbrev Blocks : List Entry → Type 0
Blocks ts = (p : Path) → Block (nodes_of ts) p (head_of (places (is_child p) 1 (nodes_of ts))) (at p ts)

-- the first child of a node that gets its mark
head-brought : (p : Path) (i : ℕ) (xs ys : List Path) → AllByRecursion (λ x. is_child p x ≡ true) xs → 0 < length xs → head_of (places (is_child p) i (xs ++ ys)) ≡ i
head-brought p i [] ys h l = absurd (omega arith)
head-brought p i (x ∷ xs) ys h l = ap (λ b. head_of (cond b (i ∷ places (is_child p) (suc i) (xs ++ ys)) (places (is_child p) (suc i) (xs ++ ys)))) h.0

-- one entry more
blocks-snoc : (ts : List Entry) (p : Path) (v : Value) → Blocks ts → Blocks (ts ++ entry p v ∷ [])
blocks-snoc ts p v B q = subst (λ ns. Block ns q (head_of (places (is_child q) 1 ns)) (at q (ts ++ entry p v ∷ []))) (sym (nodes-snoc ts (entry p v))) (go (same p q) refl)
  where
    -- a node whose values were there
    longer : (x : Path) (u : Value) (us ws : List Value) → at x ts ≡ u ∷ us → Block (nodes_of ts ++ added ts (entry p v)) x (head_of (places (is_child x) 1 (nodes_of ts ++ added ts (entry p v)))) (u ∷ ws)
    longer x u us ws e j h =
        let b = subst (λ vs. Block (nodes_of ts) x (head_of (places (is_child x) 1 (nodes_of ts))) vs) e (B x) in
        let some : 0 < head_of (places (is_child x) 1 (nodes_of ts)) = omega (arith, (b 0 (omega arith)).0) in
        let first = ap head_of (places-append (is_child x) 1 (nodes_of ts) (added ts (entry p v))) ∙ head-append (places (is_child x) 1 (nodes_of ts)) (places (is_child x) (1 + length (nodes_of ts)) (added ts (entry p v))) some in
        subst (λ k. Home (nodes_of ts ++ added ts (entry p v)) (k + j) (get_or (brought x (kind u)) j root)) (sym first) (home-more (nodes_of ts) (added ts (entry p v)) _ _ (b j h))

    -- the node that gets its mark
    first-value : at p ts ≡ [] → Block (nodes_of ts ++ added ts (entry p v)) p (head_of (places (is_child p) 1 (nodes_of ts ++ added ts (entry p v)))) (v ∷ [])
    first-value e j h =
        let K = kind v in
        let rest = new_child (had (λ i. false) (at p ts)) p (branch_of v) in
        let parts : added ts (entry p v) ≡ brought p K ++ rest = ap (λ vs. marked vs p K ++ rest) e in
        let none = places-none (is_child p) 1 (nodes_of ts) (childless ts p e) in
        let first : head_of (places (is_child p) 1 (nodes_of ts ++ added ts (entry p v))) ≡ 1 + length (nodes_of ts) =
        ap (λ l. head_of (places (is_child p) 1 (nodes_of ts ++ l))) parts ∙ ap head_of (places-append (is_child p) 1 (nodes_of ts) (brought p K ++ rest) ∙ ap (λ l. l ++ places (is_child p) (1 + length (nodes_of ts)) (brought p K ++ rest)) none)
        ∙ head-brought p (1 + length (nodes_of ts)) (brought p K) rest (brought-kin p K) (omega (arith, length-brought p K)) in
        let at_j : node_of (nodes_of ts ++ added ts (entry p v)) (suc (length (nodes_of ts) + j)) ≡ get_or (brought p K) j root =
        ap (λ l. get_or (nodes_of ts ++ l) (length (nodes_of ts) + j) root) parts ∙ get_or-append-add (nodes_of ts) (brought p K ++ rest) j root ∙ get_or_append_left (brought p K) rest root j (omega (arith, length-brought p K)) in
        let n : head_of (places (is_child p) 1 (nodes_of ts ++ added ts (entry p v))) + j ≡ suc (length (nodes_of ts) + j) = omega (arith, first) in
        (omega arith, omega (arith, length-append (nodes_of ts) (added ts (entry p v)), ap length parts, length-append (brought p K) rest, length-brought p K), ap (node_of (nodes_of ts ++ added ts (entry p v))) n ∙ at_j)

    here : (vs : List Value) → at p ts ≡ vs → Block (nodes_of ts ++ added ts (entry p v)) p (head_of (places (is_child p) 1 (nodes_of ts ++ added ts (entry p v)))) (vs ++ v ∷ [])
    here [] e = first-value e
    here (u ∷ us) e = longer p u us (us ++ v ∷ []) e

    there : (vs : List Value) → at q ts ≡ vs → Block (nodes_of ts ++ added ts (entry p v)) q (head_of (places (is_child q) 1 (nodes_of ts ++ added ts (entry p v)))) vs
    there [] e = tt
    there (u ∷ us) e = longer q u us us e

    go : (b : Bool) → same p q ≡ b → Block (nodes_of ts ++ added ts (entry p v)) q (head_of (places (is_child q) 1 (nodes_of ts ++ added ts (entry p v)))) (at q (ts ++ entry p v ∷ []))
    go true e =
        let i = same_true p q e in
        subst (λ x. Block (nodes_of ts ++ added ts (entry p v)) x (head_of (places (is_child x) 1 (nodes_of ts ++ added ts (entry p v)))) (at x (ts ++ entry p v ∷ []))) i
        (subst (Block (nodes_of ts ++ added ts (entry p v)) p (head_of (places (is_child p) 1 (nodes_of ts ++ added ts (entry p v))))) (sym (at_on p v ts)) (here (at p ts) refl))
    go false e = subst (Block (nodes_of ts ++ added ts (entry p v)) q (head_of (places (is_child q) 1 (nodes_of ts ++ added ts (entry p v))))) (sym (at_off p q v ts e)) (there (at q ts) refl)

-- .. and any number
blocks_more : (es ts : List Entry) → Blocks ts → Blocks (ts ++ es)
blocks_more [] ts B = subst Blocks (sym (append-nil ts)) B
blocks_more (e ∷ es) ts B = subst Blocks (append_assoc ts (e ∷ []) es) (blocks_more es (ts ++ e ∷ []) (blocks-snoc ts e.node e.said B))

-- the children of a record in use, by the kind of the first value at its node
pub together : (T : Sheets) (ts : List Entry) → Holds T ts → (r : ℕ) (p : Path) → Home (nodes_of ts) r p → (v : Value) (vs : List Value) → at p ts ≡ v ∷ vs
    → (j : ℕ) → j < takes (kind v) → Home (nodes_of ts) ((node T r).children.first + j) (get_or (brought p (kind v)) j root)
together T ts H r p home v vs e j h =
    subst (λ k. Home (nodes_of ts) (k + j) (get_or (brought p (kind v)) j root)) (sym (first (places (is_child p) 1 (nodes_of ts)) (H.holding.children r p home).0))
    (subst (λ us. Block (nodes_of ts) p (head_of (places (is_child p) 1 (nodes_of ts))) us) e (blocks_more ts [] (λ q. tt) p) j h)
  where
    first : (is : List ℕ) → Runs (node_nexts T) (node T r).children.first is → (node T r).children.first ≡ head_of is
    first [] r = r
    first (i ∷ is) r = r.0
