-- A text that begins with a row of the table: what is left is well-formed exactly when the text is.
use Rattle.std.proofs.Common.{◌≡◌, ℕ, zero, suc, ◌≤◌, Bool, true, false, ◌&&◌, ◌||◌, eqb, ltb, leb, List, [], ◌∷◌, ◌++◌, length, get_or, take, drop, Decides, sym, refl, ap, ◌∙◌, subst, inl, inr, arith}
use Rattle.std.specs.List.{ContainsAt as Has, AllByRecursion}
use Rattle.std.proofs.lemmas.Bool.{leb-true, le-leb, ltb-true, eqb-true, and_parts, and_from, or_cases, false≢true}
use Rattle.std.proofs.lemmas.List.{take-append-drop, drop_at, length-append}
use Rattle.std.proofs.ByRecursion.{all-has, has_get_or, Decides-by_and}
use Rattle.std.proofs.lemmas.Bool.Decides.{Decides-by_or}
use Rattle.utf8.specs.Table.{Range, Row, table, In, Fits, WellFormed, empty, more}
use Rattle.utf8.specs.Passes.{in_range, begins, some_row, passes_in, passes}

-- one is well-formed exactly when the other is
abbrev pub Alike : List ℕ → List ℕ → Type 0
Alike t s = (WellFormed t → WellFormed s) × (WellFormed s → WellFormed t)

-- the test of a range, and the range
in-range : (g : Range) (b : ℕ) → in_range g b ≡ true → In g b
in-range g b e = let p = and_parts (leb g.low b) (leb b g.high) e in (leb-true g.low b p.0, leb-true b g.high p.1)

range-in : (g : Range) (b : ℕ) → In g b → in_range g b ≡ true
range-in g b i = and_from (leb g.low b) (leb b g.high) (le-leb g.low b i.0) (le-leb b g.high i.1)

-- the front of a text that begins with a row fits the row
begins-fits : (row : Row) (s : List ℕ) → begins row s ≡ true → Fits row (take (length row) s)
begins-fits [] s e = tt
begins-fits (g ∷ gs) [] e = absurd (false≢true e)
begins-fits (g ∷ gs) (b ∷ bs) e = let p = and_parts (in_range g b) (begins gs bs) e in (in-range g b p.0, begins-fits gs bs p.1)

-- and bytes that fit a row begin with it, whatever follows
fits-begins : (row : Row) (bytes rest : List ℕ) → Fits row bytes → begins row (bytes ++ rest) ≡ true
fits-begins [] [] rest f = refl
fits-begins [] (b ∷ bs) rest f = absurd f
fits-begins (g ∷ gs) [] rest f = absurd f
fits-begins (g ∷ gs) (b ∷ bs) rest f = and_from (in_range g b) (begins gs (bs ++ rest)) (range-in g b f.0) (fits-begins gs bs rest f.1)

-- a row has as many ranges as the bytes that fit it
length-fits : (row : Row) (bytes : List ℕ) → Fits row bytes → length bytes ≡ length row
length-fits [] [] f = refl
length-fits [] (b ∷ bs) f = absurd f
length-fits (g ∷ gs) [] f = absurd f
length-fits (g ∷ gs) (b ∷ bs) f = ap suc (length-fits gs bs f.1)

-- whether two rows are of one length, or their first ranges have no byte in common
alone : Row → Row → Bool
alone [] q = false
alone (g ∷ gs) [] = false
alone (g ∷ gs) (h ∷ hs) = eqb (length gs) (length hs) || (ltb g.high h.low || ltb h.high g.low)

-- whether the test holds of each of the rows
every : (Row → Bool) → List Row → Bool
every test [] = true
every test (row ∷ rows) = test row && every test rows

every-has : (test : Row → Bool) (rows : List Row) → every test rows ≡ true → (row : Row) → Has rows row → test row ≡ true
unfolding every
every-has test rows e row h =
    all-has (λ r. test r ≡ true) rows row ((Decides-by_and test (λ r. test r ≡ true) (every test) (λ r. (λ t. t, λ t. t)) refl (λ _ _. refl) rows).0 e) h

-- so it is with any two rows of the table, by computing
table-alone : every (λ p. every (alone p) table) table ≡ true
unfolding every alone
table-alone = refl

rows-alone : (p q : Row) → Has table p → Has table q → alone p q ≡ true
rows-alone p q hp hq = every-has (alone p) table (every-has (λ r. every (alone r) table) table table-alone p hp) q hq

-- then a text begins with both only if they are of one length
alone-same : (p q : Row) (s : List ℕ) → alone p q ≡ true → begins p s ≡ true → begins q s ≡ true → length p ≡ length q
unfolding alone
alone-same [] q s e bp bq = absurd (false≢true e)
alone-same (g ∷ gs) [] s e bp bq = absurd (false≢true e)
alone-same (g ∷ gs) (h ∷ hs) [] e bp bq = absurd (false≢true bp)
alone-same (g ∷ gs) (h ∷ hs) (b ∷ bs) e bp bq =
    let ig = in-range g b (and_parts (in_range g b) (begins gs bs) bp).0 in
    let ih = in-range h b (and_parts (in_range h b) (begins hs bs) bq).0 in
    elim (or_cases (eqb (length gs) (length hs)) (ltb g.high h.low || ltb h.high g.low) e) [
      | inl x ↦ ap suc (eqb-true (length gs) (length hs) x)
      | inr y ↦ elim (or_cases (ltb g.high h.low) (ltb h.high g.low) y)
          [ inl x ↦ absurd (omega (arith, ltb-true g.high h.low x)) | inr x ↦ absurd (omega (arith, ltb-true h.high g.low x)) ]
    ]

-- no row is empty
row-some : (row : Row) → Has table row → 1 ≤ length row
unfolding alone
row-some [] h = absurd (false≢true (rows-alone [] [] h h))
row-some (g ∷ gs) h = omega arith

-- a row in front of well-formed bytes
with_row : (row : Row) (s : List ℕ) → Has table row → begins row s ≡ true → WellFormed (drop (length row) s) → WellFormed s
with_row row s h e w = subst WellFormed (take-append-drop (length row) s) (more row (take (length row) s) (drop (length row) s) h (begins-fits row s e) w)

-- a row taken from the front of well-formed bytes
without-row : (row : Row) (s : List ℕ) → Has table row → begins row s ≡ true → WellFormed s → WellFormed (drop (length row) s)
without-row [] _ h e empty = empty
without-row (g ∷ gs) _ h e empty = empty
without-row row _ h e (more other bytes rest k f w) =
    let same = length-fits other bytes f ∙ alone-same other row (bytes ++ rest) (rows-alone other row k h) (fits-begins other bytes rest f) e in
    subst WellFormed (sym (drop_at bytes rest (length row) same)) w

-- so what is left after a row is alike the whole
pub after-row : (row : Row) (s : List ℕ) → Has table row → begins row s ≡ true → Alike (drop (length row) s) s
after-row row s h e = (with_row row s h e, without-row row s h e)

-- bytes that begin with no row are not well-formed
pub no_row : (s : List ℕ) → 1 ≤ length s → AllByRecursion (λ row. begins row s ≡ false) table → WellFormed s → ⊥
no_row _ l a empty = absurd (omega arith)
no_row _ l a (more row bytes rest k f w) = false≢true (sym (all-has (λ r. begins r (bytes ++ rest) ≡ false) table row a k) ∙ fits-begins row bytes rest f)

-- a test of some row, and the row
some-has : (test : Row → Bool) (rows : List Row) → some_row test rows ≡ true → (row : Row) × (Has rows row × (test row ≡ true))
some-has test rows e =
    let p = (Decides-by_or test (λ r. test r ≡ true) (some_row test) (λ r. (λ t. t, λ t. t)) refl (λ _ _. refl) rows).0 e in
    (get_or rows p.0 [], (has_get_or rows p.0 [] p.1, p.2 []))

has_some : (test : Row → Bool) (rows : List Row) (row : Row) → Has rows row → test row ≡ true → some_row test rows ≡ true
has_some test rows row h e =
    (Decides-by_or test (λ r. test r ≡ true) (some_row test) (λ r. (λ t. t, λ t. t)) refl (λ _ _. refl) rows).1
    (h.0, h.1, λ d. ap test (h.2 d) ∙ e)

-- what passes is well-formed
sound : (s : List ℕ) (n : ℕ) → passes_in s n ≡ true → WellFormed s
unfolding passes_in
sound [] n e = empty
sound (b ∷ bs) zero e = absurd (false≢true e)
sound (b ∷ bs) (suc n) e =
    let p = some-has (λ row. begins row (b ∷ bs) && passes_in (drop (length row) (b ∷ bs)) n) table e in
    let row = p.0 in
    let q = and_parts (begins row (b ∷ bs)) (passes_in (drop (length row) (b ∷ bs)) n) p.1.1 in
    with_row row (b ∷ bs) p.1.0 q.0 (sound (drop (length row) (b ∷ bs)) n q.1)

-- and what is well-formed passes
complete : {s : List ℕ} → WellFormed s → (n : ℕ) → length s ≤ n → passes_in s n ≡ true
unfolding passes_in
complete empty n l = refl
complete (more row [] rest h f w) n l = absurd (omega (arith, row-some row h, length-fits row [] f))
complete (more row (b ∷ bs) rest h f w) zero l = absurd (omega arith)
complete (more row (b ∷ bs) rest h f w) (suc n) l =
    let t = (b ∷ bs) ++ rest in
    let same = drop_at (b ∷ bs) rest (length row) (length-fits row (b ∷ bs) f) in
    let short : length rest ≤ n = omega (arith, length-append bs rest) in
    has_some (λ r. begins r t && passes_in (drop (length r) t) n) table row h
    (and_from (begins row t) (passes_in (drop (length row) t) n) (fits-begins row (b ∷ bs) rest f) (rw same (complete w n short)))

-- the test that computes decides what is well-formed
pub decides-passes : (s : List ℕ) → Decides (passes s) (WellFormed s)
unfolding passes
decides-passes s = (sound s (length s), λ w. complete w (length s) (omega arith))
