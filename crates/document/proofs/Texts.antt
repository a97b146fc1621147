-- Where the texts of a node stand in the input.
use Rattle.std.proofs.Common.{◌≡◌, ℕ, ◌+◌, ◌-◌, Bool, true, false, cond, not, List, [], ◌∷◌, ◌++◌, map as each, length, take, drop, sym, refl, ap, ◌∙◌, subst, append_assoc, add-zero, arith, length-append}
use Rattle.std.specs.List.{AllByRecursion}
use Rattle.std.proofs.lemmas.List.{take_at, drop_at, drop-drop}
use Rattle.column.specs.Meaning.{Meaning}
use Rattle.document.specs.Calls.{total, Kind, SCALAR, TEXT, SEQ, MAP, ENUM, UNIT, TUPLE, Cell, str, num, Value, scalar, text, unit, none, some, variant, seq, map, tuple, kind, cell}
use Rattle.document.specs.Nodes.{Path, same}
use Rattle.document.specs.Entries.{Entry, entry, at}
use Rattle.document.specs.Columns.{columns, joined, length_bytes}
use Rattle.document.specs.Reader.{put, letter_count}
use Rattle.document.proofs.Sound.{OneKind}
use Rattle.document.proofs.Paths.{same_true, at-append}
use Rattle.document.proofs.ReadBack.{is_text}
use Rattle.document.proofs.Between.{touched, touched-unit, unit_kind, last-kind, at-past, at_off}

-- the texts of these cells stand one after another from the place on; a number is no text
abbrev pub Stands : List ℕ → ℕ → List Cell → Type 0
Stands input k [] = Unit {0}
Stands input k (c ∷ cs) = (take (letter_count c) (drop k input) ≡ str c) × Stands input (k + letter_count c) cs

stands-joined : (input : List ℕ) (cs : List Cell) (k : ℕ) (rest : List ℕ) → drop k input ≡ joined (each str cs) ++ rest → Stands input k cs
stands-joined input [] k rest e = tt
stands-joined input (c ∷ cs) k rest e =
    let front : drop k input ≡ str c ++ (joined (each str cs) ++ rest) = e ∙ append_assoc (str c) (joined (each str cs)) rest in (
      ap (take (letter_count c)) front ∙ take_at (str c) (joined (each str cs) ++ rest) (letter_count c) refl,
      stands-joined input cs (k + letter_count c) rest (sym (drop-drop (letter_count c) k input) ∙ ap (drop (letter_count c)) front ∙ drop_at (str c) (joined (each str cs) ++ rest) (letter_count c) refl),
    )

-- a value that is no text has no letters
no-letters : (K : Kind) → is_text K ≡ false → (v : Value) → kind v ≡ K → str (cell v) ≡ []
unfolding is_text
no-letters K f (scalar k b) e = refl
no-letters K f (text bs) e = cc (ap is_text e)
no-letters K f unit e = refl
no-letters K f none e = refl
no-letters K f some e = refl
no-letters K f (variant i) e = refl
no-letters K f (seq n) e = refl
no-letters K f (map n) e = refl
no-letters K f (tuple n) e = refl

stands-none : (input : List ℕ) (K : Kind) → is_text K ≡ false → (vs : List Value) → AllByRecursion (λ v. kind v ≡ K) vs → (k : ℕ) → Stands input k (each cell vs)
stands-none input K f [] h k = tt
stands-none input K f (v ∷ vs) h k = let e = no-letters K f v h.0 in (rw e refl, stands-none input K f vs h.1 (k + letter_count (cell v)))

letters-joined : (cs : List Cell) → total letter_count cs ≡ length (joined (each str cs))
letters-joined [] = refl
letters-joined (c ∷ cs) = omega (arith, letters-joined cs, length-append (str c) (joined (each str cs)))

-- a node's texts stand at the end of its bytes
stands-new : (col : Meaning) (input : List ℕ) (K : Kind) (vs : List Value) (rest : List ℕ) (place : ℕ) → AllByRecursion (λ u. kind u ≡ K) vs
    → drop place input ≡ columns col K (each cell vs) ++ rest → Stands input (place + length (columns col K (each cell vs)) - total letter_count (each cell vs)) (each cell vs)
unfolding columns is_text
stands-new col input (SCALAR k) vs rest place h e = stands-none input (SCALAR k) refl vs h _
stands-new col input TEXT vs rest place h e =
    let lengths : List ℕ = length_bytes col (each num (each cell vs)) in
    let letters : List ℕ = joined (each str (each cell vs)) in
    let at : place + length (lengths ++ letters) - total letter_count (each cell vs) ≡ place + length lengths = omega (arith, length-append lengths letters, letters-joined (each cell vs)) in
    let there : drop (place + length lengths) input ≡ letters ++ rest =
    sym (drop-drop (length lengths) place input) ∙ ap (drop (length lengths)) (e ∙ append_assoc lengths letters rest) ∙ drop_at lengths (letters ++ rest) (length lengths) refl in
    rw at (stands-joined input (each cell vs) (place + length lengths) rest there)
stands-new col input SEQ vs rest place h e = stands-none input SEQ refl vs h _
stands-new col input MAP vs rest place h e = stands-none input MAP refl vs h _
stands-new col input ENUM vs rest place h e = stands-none input ENUM refl vs h _
stands-new col input UNIT vs rest place h e = stands-none input UNIT refl vs h _
stands-new col input (TUPLE n) vs rest place h e = stands-none input (TUPLE n) refl vs h _

pub texts-new : (col : Meaning) (input : List ℕ) (K : Kind) (vs : List Value) (rest : List ℕ) (place : ℕ) → AllByRecursion (λ u. kind u ≡ K) vs → drop place input ≡ columns col K (each cell vs) ++ rest
    → Stands input (place + length (columns col K (each cell vs)) - total letter_count (each cell vs)) (each cell vs) × (drop (place + length (columns col K (each cell vs))) input ≡ rest)
texts-new col input K vs rest place h e =
    let cols : List ℕ = columns col K (each cell vs) in
    (stands-new col input K vs rest place h e, sym (drop-drop (length cols) place input) ∙ ap (drop (length cols)) e ∙ drop_at cols rest (length cols) refl)

-- a node that has been looked at before, for a value that is no unit
pub seen-touched : (x v : Value) (xs us : List Value) → unit_kind (kind v) ≡ false → OneKind (x ∷ xs ++ v ∷ us) → touched (x ∷ xs) ≡ true
seen-touched x v xs us f k = let e : kind v ≡ kind x = last-kind x v xs us k in ap not (rw e at f)

-- past an entry, the texts of its own node stand at k, and those of the others where they stood
pub standing_on : (input : List ℕ) (ps es : List Entry) (p : Path) (v : Value) (old new : Path → ℕ) (k : ℕ) → ((q : Path) → same p q ≡ false → new q ≡ old q)
    → ((q : Path) → touched (at q ps) ≡ true → Stands input (old q) (each cell (at q (entry p v ∷ es)))) → Stands input k (each cell (at p es))
    → (q : Path) → touched (at q (ps ++ entry p v ∷ [])) ≡ true → Stands input (put p k new q) (each cell (at q es))
standing_on input ps es p v old new k off stood own q t = go (same p q) refl
  where
    go : (b : Bool) → same p q ≡ b → Stands input (cond b k (new q)) (each cell (at q es))
    go true e = subst (λ (o : Path). Stands input k (each cell (at o es))) (same_true p q e) own
    go false e =
        subst (λ (n : ℕ). Stands input n (each cell (at q es))) (sym (off q e))
        (subst (λ (xs : List Value). Stands input (old q) (each cell xs)) (at-past p q v es e) (stood q (rw (at_off p q v ps e) at t)))

-- a unit moves no text
pub standing-unit : (input : List ℕ) (ps es : List Entry) (p : Path) (texts : Path → ℕ) → ((q : Path) → touched (at q ps) ≡ true → Stands input (texts q) (each cell (at q (entry p unit ∷ es))))
    → (q : Path) → touched (at q (ps ++ entry p unit ∷ [])) ≡ true → Stands input (texts q) (each cell (at q es))
standing-unit input ps es p texts stood q t =
    go (same p q) (stood q (sym (touched-unit (at q ps) (same p q)) ∙ ap touched (sym (at-append q ps (entry p unit ∷ []))) ∙ t))
  where
    go : (b : Bool) → Stands input (texts q) (each cell (cond b (unit ∷ at q es) (at q es))) → Stands input (texts q) (each cell (at q es))
    go true h = rw add-zero at h.1
    go false h = h
