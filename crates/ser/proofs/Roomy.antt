-- What an accepted value may rely on: bounds, from one move to the next.
use Rattle.std.proofs.Common.{◌≡◌, ℕ, ◌+◌, ◌<◌, ◌≤◌, min, Bool, true, false, cond, eqb, [], ◌∷◌, map, length, Ok, Option, sym, refl, ap, ◌∙◌, subst, ap₂, ⊎_elim, arith}
use Rattle.std.specs.declared.option.Option.TheVariants as options
use Rattle.std.proofs.lemmas.Bool.{ltb-false, leb-false, cond-true, cond-false, cases_Bool, cases_eq, eq-eqb, both_ways}
use Rattle.std.proofs.lemmas.Bool.Decides.{nat_tests}
use Rattle.document.specs.declared.refusals.Refusal.TheVariants as refusals
use Rattle.document.specs.Calls.{Call, val, none}
use Rattle.document.specs.Columns.{limit}
use Rattle.document.specs.Verdict.{first_of, high_index, ill_formed}
use Rattle.chain.proofs.Courses.{course-end}
use Rattle.nodes.specs.declared.marks.Mark.{Mark}
use Rattle.nodes.specs.declared.marks.Mark.TheVariants as marks
use Rattle.nodes.specs.Marks.{mark_number, family_of}
use Rattle.nodes.specs.Children.{seek}
use Rattle.ser.specs.declared.loads.Load.{Load}
use Rattle.ser.specs.Brings.{number_load, value_in, marking, loading, branching, load_cells, load_extent, letters_in, is_lone}
use Rattle.ser.specs.Moves.{Sheets, node, is_fresh, child_of, branch_in, spawned, touched, celled, branched, kept, put, put_child}
use Rattle.ser.specs.Tables.{strange_at, new_child, nodes_for, lacks_nodes, lacks_cells, lacks_text, is_too_long, weighed_at}
use Rattle.ser.specs.Safe.{RowsSafe}
use Rattle.ser.specs.Bounds.{TouchSafe, BranchSafe, KeepSafe, PutSafe}
use Rattle.ser.proofs.Moved.{spawned-bare, length-spawned, touched-used, touched-marked, length-touched, touched-tail, touched-keeps, touched-rest, length-branched, branched-keeps, branched-rest, celled-keeps, length-celled, kept-rest}

-- ---- within a put

module _ (T : Sheets) (r k : ℕ) (c : Call) (s : PutSafe T r k c) where
  after-mark : BranchSafe (touched r (marking c) T) r k (branching c)
  after-mark =
      let m = marking c in
      let used = touched-used r m T in
      let w = s.touch.within in
      let n = s.touch.nodes in
      record { within = omega arith; nodes = omega (arith, length-touched r m T, s.nodes); tail = touched-tail r m T (omega arith) s.tail }

  after-branch : KeepSafe (branched r k (branching c) (touched r (marking c) T)) r (loading c)
  after-branch =
      let m = marking c in
      let i = branching c in
      let U = touched r m T in
      let V = branched r k i U in
      let w = s.touch.within in
      let n = s.touch.nodes in
      let l : r < U.used = omega (arith, touched-used r m T) in
      let size = length-branched r k U i ∙ length-touched r m T in
      let taken = branched-rest r k U (λ W. W.taken) (λ q j W. refl) i ∙ touched-rest r m T (λ W. W.taken) (λ q j W. refl) (λ q x W. refl) in
      let cells = branched-rest r k U (λ W. length W.cells) (λ q j W. refl) i ∙ touched-rest r m T (λ W. length W.cells) (λ q j W. refl) (λ q x W. refl) in
      let last = branched-keeps r k U (λ x. x.cells.last) (λ x j. refl) (λ h x. refl) i r l ∙ touched-keeps r m T (λ x. x.cells.last) (λ x j. refl) (λ h x. refl) (λ h x. refl) (λ h x. refl) r w in
      let sum = branched-keeps r k U (λ x. x.sum) (λ x j. refl) (λ h x. refl) i r l ∙ touched-keeps r m T (λ x. x.sum) (λ x j. refl) (λ h x. refl) (λ h x. refl) (λ h x. refl) r w in
      let q = s.keep in
      record { within = omega arith; some = omega arith; cells = λ h. omega (arith, q.cells h); last = omega arith; room = omega arith }

  after-load : (kept r (loading c) (branched r k (branching c) (touched r (marking c) T))).filled + length (letters_in c) ≤ min (length (kept r (loading c) (branched r k (branching c) (touched r (marking c) T))).text) 16777216
  after-load =
      let m = marking c in
      let i = branching c in
      let U = touched r m T in
      let V = branched r k i U in
      let filled = kept-rest (λ W. W.filled) (λ q x W. refl) r (loading c) V ∙ branched-rest r k U (λ W. W.filled) (λ q j W. refl) i ∙ touched-rest r m T (λ W. W.filled) (λ q j W. refl) (λ q x W. refl) in
      let text = kept-rest (λ W. length W.text) (λ q x W. refl) r (loading c) V ∙ branched-rest r k U (λ W. length W.text) (λ q j W. refl) i ∙ touched-rest r m T (λ W. length W.text) (λ q j W. refl) (λ q x W. refl) in
      omega (arith, s.text)

  -- after the mark there is room for a child
  pub branch-safe : (m : Mark) (i : Option ℕ) (U : Sheets) → m ≡ marking c → i ≡ branching c → U ≡ touched r m T → BranchSafe U r k i
  branch-safe m i U em ei eU =
      let P : Sheets → Type 0 = λ W. BranchSafe W r k i in
      let Q : Option ℕ → Type 0 = BranchSafe (touched r (marking c) T) r k in
      subst P (sym (eU ∙ ap (λ x. touched r x T) em)) (subst Q (sym ei) after-mark)

  -- .. and then for the load
  pub keep-safe : (m : Mark) (i : Option ℕ) (x : Option Load) (U V : Sheets) → m ≡ marking c → i ≡ branching c → x ≡ loading c → U ≡ touched r m T → V ≡ branched r k i U → KeepSafe V r x
  keep-safe m i x U V em ei ex eU eV =
      let P : Sheets → Type 0 = λ W. KeepSafe W r x in
      let Q : Option Load → Type 0 = KeepSafe (branched r k (branching c) (touched r (marking c) T)) r in
      subst P (sym (eV ∙ ap₂ (branched r k) ei (eU ∙ ap (λ y. touched r y T) em))) (subst Q (sym ex) after-branch)

  -- .. and then for the letters
  pub letter-safe : (m : Mark) (i : Option ℕ) (x : Option Load) (U V W : Sheets) → m ≡ marking c → i ≡ branching c → x ≡ loading c → U ≡ touched r m T → V ≡ branched r k i U → W ≡ kept r x V
      → W.filled + length (letters_in c) ≤ min (length W.text) 16777216
  letter-safe m i x U V W em ei ex eU eV eW =
      let P : Sheets → Type 0 = λ Z. Z.filled + length (letters_in c) ≤ min (length Z.text) 16777216 in
      subst P (sym (eW ∙ ap₂ (kept r) ex (eV ∙ ap₂ (branched r k) ei (eU ∙ ap (λ y. touched r y T) em)))) after-load

-- ---- what an accepted value may take

-- the tests of an accepted value failed, each of them
passed : (a b c d e f g : Bool)
    → first_of ((a, refusals.Kind) ∷ (b, refusals.Index) ∷ (c, refusals.Nodes) ∷ (d, refusals.Cells) ∷ (e, refusals.Sum) ∷ (f, refusals.Text) ∷ (g, refusals.TextTable) ∷ []) ≡ Ok tt
    → (a ≡ false) × (b ≡ false) × (c ≡ false) × (d ≡ false) × (e ≡ false) × (f ≡ false) × (g ≡ false)
passed true b c d e f g h = cc
passed false true c d e f g h = cc
passed false false true d e f g h = cc
passed false false false true e f g h = cc
passed false false false false true f g h = cc
passed false false false false false true g h = cc
passed false false false false false false true h = cc
passed false false false false false false false h = (refl, refl, refl, refl, refl, refl, refl)

-- no node, cell, sum and text passes its limit
pub record Passed (T : Sheets) (r k : ℕ) (c : Call) : Type 0 where
  pub nodes : T.used + nodes_for T r k c ≤ min (length T.nodes) 65536
  pub cells : 0 < load_cells (loading c) → T.taken + load_cells (loading c) ≤ min (length T.cells) 1048576
  pub sum : (node T r).sum + load_extent (loading c) < limit
  pub text : T.filled + length (letters_in c) ≤ min (length T.text) 16777216

pub weighed-passed : (T : Sheets) (r k : ℕ) (c : Call) → Ok tt ≡ weighed_at T r k c → Passed T r k c
unfolding weighed_at
weighed-passed T r k c e =
    let h = passed (strange_at T r k c) (high_index (value_in c)) (lacks_nodes T (nodes_for T r k c)) (lacks_cells T (load_cells (loading c))) (is_too_long T r (load_extent (loading c))) (ill_formed (value_in c)) (lacks_text T (length (letters_in c))) (sym e) in
    record {
      nodes = ltb-false (min (length T.nodes) 65536) (T.used + nodes_for T r k c) h.2;
      cells = λ some. few (load_cells (loading c)) some h.3;
      sum = leb-false limit ((node T r).sum + load_extent (loading c)) h.4;
      text = ltb-false (min (length T.text) 16777216) (T.filled + length (letters_in c)) h.6;
    }
  where
    few : (n : ℕ) → 0 < n → lacks_cells T n ≡ false → T.taken + n ≤ min (length T.cells) 1048576
    few n h e = grind (arith, nat_tests)

-- there is room for all that it puts
pub put-safe : (T : Sheets) (r k : ℕ) (c : Call) → RowsSafe T → 0 < r → r < T.used → Ok tt ≡ weighed_at T r k c → is_lone c ≡ false → PutSafe T r k c
put-safe T r k c safe p l e lone =
    let q = weighed-passed T r k c e in
    let row = safe.rows r p l in
    let fam = cond (is_fresh T r) (family_of (marking c)) 0 in
    let n : nodes_for T r k c ≡ fam + new_child k (branching c) = ap (λ b. cond b 0 fam + new_child k (branching c)) lone in
    let room : T.used + (fam + new_child k (branching c)) ≤ min (length T.nodes) 65536 = omega (arith, q.nodes) in
    record {
      touch = record {
        within = l;
        nodes = omega arith;
        order = λ f. omega (arith, row.room f);
        family = λ f. record { within = l; nodes = omega (arith, cond-true (is_fresh T r) (family_of (marking c)) 0 f); tail = row.tail };
      };
      tail = row.tail;
      nodes = room;
      keep = record { within = omega arith; some = safe.some-cells; cells = q.cells; last = row.last; room = omega (arith, q.sum) };
      text = q.text;
    }

-- a record without a value has no child
pub fresh-childless : (T : Sheets) (r i : ℕ) → RowsSafe T → 0 < r → r < T.used → is_fresh T r ≡ true → child_of T r i ≡ 0
fresh-childless T r i safe p l f = ap (seek (map (λ n. n.index) T.nodes) i) (course-end (map (λ n. n.next) T.nodes) (node T r).children.first (omega (arith, (safe.rows r p l).bare f)))

-- no child comes with an enum's mark
no-child : (b : Bool) → ◌≡◌ {A = ℕ} (cond b 0 0) 0
no-child true = refl
no-child false = refl

module _ (T : Sheets) (r k : ℕ) (safe : RowsSafe T) (p : 0 < r) (l : r < T.used) (found : k ≡ child_of T r 0) (room : T.used + new_child k (options.Some 0) ≤ min (length T.nodes) 65536) where
  -- there is room for the unit of a `none`, at a child that is new
  new-unit : eqb k 0 ≡ true → TouchSafe (celled r (number_load 0) (spawned r 0 (touched r marks.Enum T))) (touched r marks.Enum T).used marks.Unit
  new-unit e =
      let U = touched r marks.Enum T in
      let V = spawned r 0 U in
      let row = safe.rows r p l in
      let used : U.used ≡ T.used = omega (arith, touched-used r marks.Enum T, no-child (is_fresh T r)) in
      let one : new_child k (options.Some 0) ≡ 1 = ap (λ b. cond b 1 0) e in
      let touched-long = length-touched r marks.Enum T in
      let long = length-celled r (number_load 0) V ∙ length-spawned r 0 U in
      let marked : U.marked < U.used = ⊎_elim
      (λ f. omega (arith, row.room f, touched-marked r marks.Enum T, cond-true {A = ℕ} (is_fresh T r) 1 0 f))
      (λ f. omega (arith, safe.few-marked, touched-marked r marks.Enum T, cond-false {A = ℕ} (is_fresh T r) 1 0 f))
      (cases_Bool (is_fresh T r)) in
      let tail = touched-tail r marks.Enum T (omega arith) row.tail in
      let bare = celled-keeps (λ n. n.children.last) (λ h n. refl) (λ h n. refl) r (number_load 0) U.used V ∙ spawned-bare r 0 U (omega arith) tail (omega arith) in
      record {
        within = omega arith;
        nodes = omega arith;
        order = λ f. omega arith;
        family = λ f. record { within = omega arith; nodes = omega arith; tail = omega arith };
      }

  -- .. at a child that was found: then r has a value, and the mark leaves the tables as they were
  found-unit : eqb k 0 ≡ false → TouchSafe (celled r (number_load 0) (touched r marks.Enum T)) k marks.Unit
  found-unit e =
      let f : is_fresh T r ≡ false = ⊎_elim
      (λ t. absurd (both_ways (eqb k 0) e (eq-eqb k 0 (found ∙ fresh-childless T r 0 safe p l t))))
      (λ t. t)
      (cases_Bool (is_fresh T r)) in
      let same : touched r marks.Enum T ≡ T = cond-false (is_fresh T r) _ T f in
      let in_use : k < T.used = omega (arith, (safe.rows r p l).kin 0) in
      let some : 0 < k = ⊎_elim (λ z. absurd (both_ways (eqb k 0) e (eq-eqb k 0 z))) (λ z. omega arith) (cases_eq k 0) in
      let row = safe.rows k some in_use in
      let long = length-celled r (number_load 0) T in
      let tail = celled-keeps (λ n. n.children.last) (λ h n. refl) (λ h n. refl) r (number_load 0) k T in
      let fresh = celled-keeps (λ n. eqb (mark_number n.mark) 0) (λ h n. refl) (λ h n. refl) r (number_load 0) k T in
      let P : Sheets → Type 0 = λ U. TouchSafe (celled r (number_load 0) U) k marks.Unit in
      subst P (sym same)
      record {
        within = in_use;
        nodes = omega arith;
        order = λ t. omega (arith, row.room (sym fresh ∙ t));
        family = λ t. record { within = in_use; nodes = omega arith; tail = omega (arith, row.tail) };
      }

  none-safe : TouchSafe (put r k (val none) T) (put_child r k (val none) T) marks.Unit
  none-safe = aux (eqb k 0) refl
    where
      aux : (b : Bool) → eqb k 0 ≡ b → TouchSafe (celled r (number_load 0) (cond b (spawned r 0 (touched r marks.Enum T)) (touched r marks.Enum T))) (cond b (touched r marks.Enum T).used k) marks.Unit
      aux true e = new-unit e
      aux false e = found-unit e

-- there is room for the unit of a `none`
pub unit-safe : (T : Sheets) (r k : ℕ) (c : Call) → RowsSafe T → 0 < r → r < T.used → k ≡ branch_in T r (branching c) → Ok tt ≡ weighed_at T r k c → c ≡ val none
    → TouchSafe (put r k c T) (put_child r k c T) marks.Unit
unit-safe T r k c safe p l found e z =
    let P : Call → Type 0 = λ d. TouchSafe (put r k d T) (put_child r k d T) marks.Unit in
    let n = ap (λ d. new_child k (branching d)) z in
    subst P (sym z) (none-safe T r k safe p l (found ∙ ap (λ d. branch_in T r (branching d)) z) (omega (arith, (weighed-passed T r k c e).nodes)))
