-- A search among the children of a record.
use Rattle.std.proofs.Common.{◌≡◌, ℕ, zero, suc, ◌+◌, ◌<◌, ◌≤◌, Bool, true, false, cond, eqb, ◌⊎◌, List, [], ◌∷◌, map, length, get_or, Option, None, Some, MatchOption, unwrap_or, sym, refl, ap, ◌∙◌, subst, inl, inr, ⊎_elim, one-add, arith}
use Rattle.std.specs.Bool.{⊤}
use Rattle.std.specs.Fn.{CalledAt}
use Rattle.std.specs.Iterator.{YieldsThen}
use Rattle.std.specs.List.{AllByRecursion, AllWithin, FoldsTo, HoldsAt}
use Rattle.std.proofs.ByRecursion.{All-weaker}
use Rattle.std.proofs.lemmas.Iterator.{first_from_find}
use Rattle.std.proofs.lemmas.List.{get_or-map, length-map}
use Rattle.std.proofs.lemmas.Bool.{cond-true, cond-false, eq-eqb, ne_eqb, eqb-true, eqb-false, cases_lt}
use Rattle.chain.specs.declared.walks.Walk.{Walk}
use Rattle.chain.specs.Chains.{course}
use Rattle.chain.specs.Walks.{table_of, place_of as stands_at}
use Rattle.chain.proofs.Courses.{course-within}
use Rattle.chain.proofs.Walking.{walks, YieldsList-from_walk}
use Rattle.document.specs.Nodes.{Path, root, ◌▹◌, Step, alt}
use Rattle.document.specs.Records.{times}
use Rattle.document.proofs.Growth.{place_of}
use Rattle.document.proofs.Paths.{same_self, same_true}
use Rattle.nodes.specs.Homes.{node_of, Home, ordinal, is_child, places}
use Rattle.nodes.specs.Children.{seek}
use Rattle.nodes.proofs.PlacesOf.{places-all, places-has}
use Rattle.nodes.proofs.Homes.{home-times}

-- A record's index, as it stands among the indices.
pub index_at : {R : Type 0} (index_of : R → ℕ) (table : List R) (k : ℕ) (x : R) → k < length table → x ≡ get_or table k x → index_of x ≡ get_or (map index_of table) k 0
index_at index_of table k x l e = ap index_of e ∙ sym (get_or-map index_of table k x 0 l)

module _ {R : Type 0} (index_of : R → ℕ) (table : List R) (i : ℕ) where
  -- The record at k has the index, or another one.
  abbrev pub Hit : ℕ → Type 0
  Hit k = (x : R) × (x ≡ get_or table k x) × (index_of x ≡ i)

  abbrev pub Miss : ℕ → Type 0
  Miss k = (x : R) × (x ≡ get_or table k x) × (index_of x ≡ i → ⊥)

  hit : (k : ℕ) → k < length table → Hit k → eqb (get_or (map index_of table) k 0) i ≡ true
  hit k l (x, at, e) = eq-eqb _ i (sym (index_at index_of table k x l at) ∙ e)

  miss : (k : ℕ) → k < length table → Miss k → eqb (get_or (map index_of table) k 0) i ≡ false
  miss k l (x, at, e) = ne_eqb _ i (λ z. e (index_at index_of table k x l at ∙ z))

  -- None of the records has the index.
  seek-none : (ks : List ℕ) → AllByRecursion (λ k. k < length table) ks → AllWithin Miss ks 0 (length ks) → 0 ≡ seek (map index_of table) i ks
  seek-none [] w m = refl
  seek-none (k ∷ ks) (w, ws) m =
      seek-none ks ws (λ j d a b. m (suc j) d (omega arith) (omega arith)) ∙ sym (cond-false _ k _ (miss k w (m 0 k (omega arith) (omega arith))))

  -- One has it, and none before.
  seek-some : (ks : List ℕ) (y j : ℕ) → AllByRecursion (λ k. k < length table) ks → Hit y → j < length ks → HoldsAt (λ z. z ≡ y) ks j → AllWithin Miss ks 0 j → y ≡ seek (map index_of table) i ks
  seek-some [] y j w h l at m = absurd (omega arith)
  seek-some (k ∷ ks) y zero (w, ws) h l at m = sym (at k) ∙ sym (cond-true _ k _ (hit k w (subst Hit (sym (at k)) h)))
  seek-some (k ∷ ks) y (suc j) (w, ws) h l at m =
      seek-some ks y j ws h (omega arith) at (λ n d a b. m (suc n) d (omega arith) (omega arith)) ∙ sym (cond-false _ k _ (miss k w (m 0 k (omega arith) (omega arith))))

  -- What a search over the records finds is what is to be found.
  pub seek-first : (ks : List ℕ) (r : Option ℕ) → AllByRecursion (λ k. k < length table) ks
      → MatchOption r (AllWithin Miss ks 0 (length ks)) (λ y. Hit y × (j : ℕ) × (j < length ks) × HoldsAt (λ z. z ≡ y) ks j × AllWithin Miss ks 0 j)
      → unwrap_or r 0 ≡ seek (map index_of table) i ks
  seek-first ks None w m = seek-none ks w m
  seek-first ks (Some y) w m = seek-some ks y m.1 w m.0 m.2 m.3 m.4

-- What a closure that asks for the index finds in a walk is what is to be found in the chain: a child, or 0 for none.
pub seek-walked : {R F : Type 0} {g : _} {f : F} {s : Walk R} (u : Walk R) (next_of index_of : R → ℕ) (table : List R) (first i : ℕ) {r o : Option ℕ}
    → (xs : List ℕ) × (j : F) × YieldsThen (walks next_of) s xs r u × FoldsTo (λ p x q. CalledAt g p x false q) f xs j × MatchOption r ⊤ (λ x. (h : F) × CalledAt g j x true h)
    → table_of s ≡ table → stands_at s ≡ first
    → ((k : ℕ) (q : F) → CalledAt g f k true q → Hit index_of table i k) → ((k : ℕ) (q : F) → CalledAt g f k false q → (q ≡ f) × Miss index_of table i k)
    → r ≡ o → unwrap_or o 0 ≡ seek (map index_of table) i (course (map next_of table) first)
seek-walked {f} u next_of index_of table first i {r} ran at from hits misses is =
    ap (λ w. unwrap_or w 0) (sym is)
    ∙ seek-first index_of table i (course (map next_of table) first) r
    (All-weaker _ (λ k. k < length table) (λ k h. simp length-map at h.1) _ (course-within (map next_of table) first))
    (first_from_find u f r (Hit index_of table i) (Miss index_of table i) ran (YieldsList-from_walk next_of table first at from) hits misses)

-- The first of some records with an index: there is none and the answer is 0, or it is one of them and has the index.
pub seek_found : (indices : List ℕ) (i : ℕ) (P : ℕ → Type 0) (ks : List ℕ) → AllByRecursion P ks
    → ((seek indices i ks ≡ 0) × AllByRecursion (λ k. get_or indices k 0 ≡ i → ⊥) ks) ⊎ (P (seek indices i ks) × (get_or indices (seek indices i ks) 0 ≡ i))
seek_found indices i P [] h = inl (refl, tt)
seek_found indices i P (k ∷ ks) (p, ps) = go (eqb (get_or indices k 0) i) refl (seek_found indices i P ks ps)
  where
    go : (b : Bool) → eqb (get_or indices k 0) i ≡ b
        → ((seek indices i ks ≡ 0) × AllByRecursion (λ k. get_or indices k 0 ≡ i → ⊥) ks) ⊎ (P (seek indices i ks) × (get_or indices (seek indices i ks) 0 ≡ i))
        → ((cond b k (seek indices i ks) ≡ 0) × AllByRecursion (λ k. get_or indices k 0 ≡ i → ⊥) (k ∷ ks)) ⊎ (P (cond b k (seek indices i ks)) × (get_or indices (cond b k (seek indices i ks)) 0 ≡ i))
    go true e ih = inr (p, eqb-true _ _ e)
    go false e (inl (z, a)) = inl (z, (eqb-false _ _ e, a))
    go false e (inr w) = inr w

-- A node that counts as a child of p is p with one step more.
pub child-step : (p q : Path) → is_child p q ≡ true → (s : Step) × (q ≡ p ▹ s)
child-step p root e = cc
child-step p (q ▹ s) e = (s, ap (λ o. o ▹ s) (same_true q p e))

-- Each record among a node's children is some child's.
pub children-homes : (ns : List Path) (p : Path) → AllByRecursion (λ k. (s : Step) × Home ns k (p ▹ s)) (places (is_child p) 1 ns)
children-homes ns p = places-all (λ k. (s : Step) × Home ns k (p ▹ s)) (is_child p) 1 ns root
    (λ j l e. let (s, q) = child-step p (get_or ns j root) e in (s, (omega arith, omega arith, ap (λ k. node_of ns k) (one-add j) ∙ q)))

-- The child of an index, where each record has the index of its node and all children have one:
-- there is none and the answer is 0, or it is that child's record.
pub seek-child : (indices : List ℕ) (ns : List Path) (p : Path) → ((r : ℕ) (q : Path) → Home ns r q → get_or indices r 0 ≡ ordinal q) → ((s : Step) → 1 ≤ times (p ▹ s) ns → (j : ℕ) × (s ≡ alt j))
    → (i : ℕ) → ((times (p ▹ alt i) ns ≡ 0) × (seek indices i (places (is_child p) 1 ns) ≡ 0)) ⊎ Home ns (seek indices i (places (is_child p) 1 ns)) (p ▹ alt i)
seek-child indices ns p indexed branches i = ⊎_elim (λ n. inl (missing n.1, n.0)) (λ f. inr (found f.0 f.1)) (seek_found indices i (λ k. (s : Step) × Home ns k (p ▹ s)) ks (children-homes ns p))
  where
    ks : List ℕ
    ks = places (is_child p) 1 ns

    missing : AllByRecursion (λ k. get_or indices k 0 ≡ i → ⊥) ks → times (p ▹ alt i) ns ≡ 0
    missing a = ⊎_elim (λ l. omega arith) (λ l. absurd (none-such (place_of (p ▹ alt i) ns l))) (cases_lt (times (p ▹ alt i) ns) 1)
      where
        none-such : (j : ℕ) × (j < length ns) × (get_or ns j root ≡ p ▹ alt i) → ⊥
        none-such (j, l, e) = places-has (λ k. get_or indices k 0 ≡ i → ⊥) (is_child p) 1 ns root a j l (rw e (same_self p))
            (indexed (1 + j) (p ▹ alt i) (omega arith, omega arith, ap (λ k. node_of ns k) (one-add j) ∙ e))

    found : (s : Step) × Home ns (seek indices i ks) (p ▹ s) → get_or indices (seek indices i ks) 0 ≡ i → Home ns (seek indices i ks) (p ▹ alt i)
    found (s, there) e =
        let (j, is) = branches s (home-times ns (seek indices i ks) (p ▹ s) there) in
        let q : j ≡ i = sym (ap (λ (t : Step). ordinal (p ▹ t)) is) ∙ sym (indexed (seek indices i ks) (p ▹ s) there) ∙ e in
        subst (λ (t : Step). Home ns (seek indices i ks) (p ▹ t)) (is ∙ ap {B = Step} alt q) there
