-- What a walk sees, one record after another.
use Rattle.std.proofs.Common.{◌≡◌, ℕ, zero, suc, ◌+◌, ◌<◌, ◌≤◌, ◌&&◌, ltb, ◌⊎◌, List, [], ◌∷◌, map, length, get_or, sym, refl, ap, ◌∙◌, inl, inr, ⊎_elim, arith}
use Rattle.std.specs.List.{AllByRecursion}
use Rattle.std.proofs.lemmas.List.{get_or-map, length-map}
use Rattle.std.proofs.lemmas.Bool.{cond-true, cond-false, cond_both, lt-ltb, ltb-true, and_parts, le-ltb, and_from, and_left, and_right, cases_lt, cases_eq}
use Rattle.chain.specs.declared.walks.Walk.{Walk}
use Rattle.chain.specs.Walks.{table_of, place_of}
use Rattle.chain.specs.Chains.{onward, visited, course, Runs}

-- a walk ends at once at 0 and outside the table
visited-none : (n : ℕ) (ns : List ℕ) (at : ℕ) → (at ≡ 0) ⊎ (length ns ≤ at) → visited n ns at ≡ []
visited-none zero ns at h = refl
visited-none (suc n) ns at h =
    cond-false (ltb 0 at && ltb at (length ns)) _ _
    (⊎_elim (λ e. and_left (ltb 0 at) (ltb at (length ns)) (le-ltb 0 at (omega arith))) (λ l. and_right (ltb 0 at) (ltb at (length ns)) (le-ltb at (length ns) l)) h)

visited-more : (n : ℕ) (ns : List ℕ) (at : ℕ) → 0 < at → at < length ns → visited (suc n) ns at ≡ at ∷ visited n ns (onward at (get_or ns at 0))
visited-more n ns at p q = cond-true (ltb 0 at && ltb at (length ns)) _ _ (and_from (ltb 0 at) (ltb at (length ns)) (lt-ltb 0 at p) (lt-ltb at (length ns) q))

-- a walk goes on to a greater record, or ends
pub onward-rises : (at next : ℕ) → at < next → onward at next ≡ next
onward-rises at next l = cond-true (ltb at next) next 0 (lt-ltb at next l)

pub onward-ends : (at next : ℕ) → next ≤ at → onward at next ≡ 0
onward-ends at next l = cond-false (ltb at next) next 0 (le-ltb at next l)

onward-left : (m n at next : ℕ) → m ≤ at + suc n → (onward at next ≡ 0) ⊎ (m ≤ onward at next + n)
onward-left m n at next h = ⊎_elim (λ l. inr (omega (arith, onward-rises at next l))) (λ l. inl (onward-ends at next l)) (cases_lt at next)

-- what is left of the table is all that a walk needs
visited-same : (n m : ℕ) (ns : List ℕ) (at : ℕ) → (at ≡ 0) ⊎ (length ns ≤ at + n) → (at ≡ 0) ⊎ (length ns ≤ at + m) → visited n ns at ≡ visited m ns at
visited-same zero m ns at a b = sym (visited-none m ns at (⊎_elim inl (λ l. inr (omega arith)) a))
visited-same (suc n) zero ns at a b = visited-none (suc n) ns at (⊎_elim inl (λ l. inr (omega arith)) b)
visited-same (suc n) (suc m) ns at a b = ⊎_elim
    (λ e. visited-none (suc n) ns at (inl e) ∙ sym (visited-none (suc m) ns at (inl e)))
    (λ nz. ⊎_elim
    (λ l. let la : length ns ≤ at + suc n = ⊎_elim (λ e. absurd (nz e)) (λ h. h) a in
    let lb : length ns ≤ at + suc m = ⊎_elim (λ e. absurd (nz e)) (λ h. h) b in
    visited-more n ns at (omega arith) l
    ∙ ap (λ is. at ∷ is) (visited-same n m ns (onward at (get_or ns at 0)) (onward-left (length ns) n at (get_or ns at 0) la) (onward-left (length ns) m at (get_or ns at 0) lb))
    ∙ sym (visited-more m ns at (omega arith) l))
    (λ l. visited-none (suc n) ns at (inr l) ∙ sym (visited-none (suc m) ns at (inr l)))
    (cases_lt at (length ns)))
    (cases_eq at 0)

-- no record comes at 0
pub course-end : (ns : List ℕ) (at : ℕ) → at ≡ 0 → course ns at ≡ []
unfolding course
course-end ns at e = visited-none (length ns) ns at (inl e)

-- no record comes outside the table
pub course-outside : (ns : List ℕ) (at : ℕ) → length ns ≤ at → course ns at ≡ []
unfolding course
course-outside ns at l = visited-none (length ns) ns at (inr l)

-- at a record of the table it comes, and then those from where the walk goes on
pub course-more : (ns : List ℕ) (at : ℕ) → 0 < at → at < length ns → course ns at ≡ at ∷ course ns (onward at (get_or ns at 0))
unfolding course
course-more ns at p q =
    visited-same (length ns) (suc (length ns)) ns at (inr (omega arith)) (inr (omega arith)) ∙ visited-more (length ns) ns at p q

visited-few : (n : ℕ) (ns : List ℕ) (at : ℕ) → length (visited n ns at) ≤ n
visited-few zero ns at = omega arith
visited-few (suc n) ns at =
    let ih = visited-few n ns (onward at (get_or ns at 0)) in
    cond_both (ltb 0 at && ltb at (length ns)) _ _ (λ is. length is ≤ suc n) (λ e. omega arith) (λ e. omega arith)

-- a walk has no more records than the table
pub length-course : (ns : List ℕ) (at : ℕ) → length (course ns at) ≤ length ns
unfolding course
length-course ns at = visited-few (length ns) ns at

visited-within : (n : ℕ) (ns : List ℕ) (at : ℕ) → AllByRecursion (λ k. (0 < k) × (k < length ns)) (visited n ns at)
visited-within zero ns at = tt
visited-within (suc n) ns at =
    cond_both (ltb 0 at && ltb at (length ns)) _ _ (AllByRecursion (λ k. (0 < k) × (k < length ns)))
    (λ e. let b = and_parts (ltb 0 at) (ltb at (length ns)) e in
    ((ltb-true 0 at b.0, ltb-true at (length ns) b.1), visited-within n ns (onward at (get_or ns at 0))))
    (λ e. tt)

-- each record that comes is one of the table, and not 0
pub course-within : (ns : List ℕ) (at : ℕ) → AllByRecursion (λ k. (0 < k) × (k < length ns)) (course ns at)
unfolding course
course-within ns at = visited-within (length ns) ns at

-- a walk sees exactly the records of a chain
pub runs-course : (ns : List ℕ) (head : ℕ) (is : List ℕ) → Runs ns head is → course ns head ≡ is
runs-course ns head [] e = course-end ns head e
runs-course ns head (i ∷ is) (e, p, q, o, r) =
    let n = get_or ns i 0 in
    let on : onward i n ≡ n = ⊎_elim (λ z. onward-ends i n (omega arith) ∙ sym z) (λ l. onward-rises i n l) o in
    ap (course ns) e ∙ course-more ns i p q ∙ ap (λ js. i ∷ js) (ap (course ns) on ∙ runs-course ns n is r)

-- one step of a walk over a table
pub seen : {R : Type 0} (next_of : R → ℕ) (table : List R) (at next to : ℕ) (x : R) → 0 < at → at < length table → next ≡ next_of (get_or table at x) → to ≡ onward at next
    → course (map next_of table) at ≡ at ∷ course (map next_of table) to
seen next_of table at next to x p q e t =
    course-more (map next_of table) at p (simp length-map q)
    ∙ ap (λ k. at ∷ course (map next_of table) k) (ap (onward at) (get_or-map next_of table at x 0 q ∙ sym e) ∙ sym t)

-- In a loop over a walk of one table, from what `next` answered: a turn takes the first of the records that are left,
pub walk_turn : {R : Type 0} (next_of : R → ℕ) (table : List R) (before after : Walk R) (k : ℕ) → table_of before ≡ table
    → (table_of after ≡ table_of before)
    × ((course (map next_of (table_of before)) (place_of before) ≡ k ∷ course (map next_of (table_of after)) (place_of after)) × (0 < k) × (k < length (table_of before)))
    → (table_of after ≡ table) × (course (map next_of table) (place_of before) ≡ k ∷ course (map next_of table) (place_of after)) × (0 < k) × (k < length table)
walk_turn next_of table before after k b (a, (e, p, q)) =
    (a ∙ b, ap (λ xs. course (map next_of xs) (place_of before)) (sym b) ∙ e ∙ ap (λ xs. k ∷ course (map next_of xs) (place_of after)) (a ∙ b), p, omega (arith, ap length b))

-- and at the end none is left.
pub walk_end : {R : Type 0} (next_of : R → ℕ) (table : List R) (before after : Walk R) → table_of before ≡ table
    → (table_of after ≡ table_of before) × ((course (map next_of (table_of before)) (place_of before) ≡ []) × (place_of after ≡ place_of before)) → course (map next_of table) (place_of before) ≡ []
walk_end next_of table before after b (a, (e, s)) = ap (λ xs. course (map next_of xs) (place_of before)) (sym b) ∙ e
