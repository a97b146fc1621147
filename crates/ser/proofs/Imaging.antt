-- The bytes that write-out puts are those of the document, where the tables hold what its calls leave; and it stays within its buffers.
use Rattle.std.proofs.Common.{◌≡◌, ℕ, zero, suc, ◌+◌, ◌-◌, ◌^◌, ◌<◌, ◌≤◌, Bool, true, false, cond, ltb, List, [], ◌∷◌, ◌++◌, map as each, length, get_or, take, drop, sym, refl, ap, ◌∙◌, subst, ⊎_elim, add-zero, one-add, arith, take-suc}
use Rattle.std.specs.List.{AllByRecursion}
use Rattle.std.proofs.lemmas.List.{append-nil, append_assoc, map_push, take_all}
use Rattle.std.proofs.ByRecursion.{All-weaker}
use Rattle.std.proofs.lemmas.Bool.{cond-true, cond-false, cond_both, cases_Bool}
use Rattle.column.specs.Widths.{Below}
use Rattle.column.specs.Meaning.{Meaning}
use Rattle.chain.proofs.Courses.{runs-course}
use Rattle.document.specs.Calls.{width, total, extent, Kind, SCALAR, TEXT, SEQ, MAP, ENUM, UNIT, TUPLE, Value, scalar, text, unit, none, some, variant, seq, map, tuple, kind, cell, num, str, Call}
use Rattle.document.specs.Nodes.{Path, root, same}
use Rattle.document.specs.Entries.{Entry, at}
use Rattle.document.specs.Columns.{columns, joined, length_bytes, limit}
use Rattle.document.specs.Bytes.{firsts, written, node_bytes, bytes_of}
use Rattle.document.specs.Places.{start}
use Rattle.document.specs.Trace.{trace, places_after}
use Rattle.document.specs.Tables.{cells, cells_of}
use Rattle.document.specs.WriteOut.{none_open, write_out}
use Rattle.document.specs.Records.{nodes_of}
use Rattle.document.proofs.Sound.{Fits, OneKind, Sound}
use Rattle.nodes.specs.declared.marks.Mark.{Mark}
use Rattle.nodes.specs.Marks.{mark_of, mark_at}
use Rattle.nodes.specs.Homes.{places, Home}
use Rattle.ser.specs.Moves.{Sheets, node}
use Rattle.ser.specs.Held.{Slot, holds, spare, slotted, slots_of, is_held, Keeps, Holds}
use Rattle.ser.specs.Out.{in_chain, value_at, start_at, piece_at, values_of, pieces_of, image_by, node_image, ordered, image_up_to, image_of, FitsMark, Pieces, PiecesBy, OutSafe, wrote}

-- ---- the values of a node's cells

-- the values in the cells of p
abbrev held_by : Path → List Slot → List Value
held_by p [] = []
held_by p (holds e ∷ sl) = cond (same e.node p) (e.said ∷ held_by p sl) (held_by p sl)
held_by p (spare ∷ sl) = held_by p sl

-- each cell from i on keeps what stands in it
abbrev KeptFrom : Sheets → ℕ → List Slot → Type 0
KeptFrom T i [] = Unit {0}
KeptFrom T i (s ∷ sl) = Keeps T i s × KeptFrom T (suc i) sl

-- so it is where each is told by its number
kept_from : (T : Sheets) (i : ℕ) (sl : List Slot) → ((k : ℕ) → k < length sl → Keeps T (i + k) (get_or sl k spare)) → KeptFrom T i sl
kept_from T i [] h = tt
kept_from T i (s ∷ sl) h = (
  subst (λ (k : ℕ). Keeps T k s) (add-zero i) (h 0 (omega arith)),
  kept_from T (suc i) sl (λ k l. let e : i + suc k ≡ suc i + k = omega arith in subst (λ (m : ℕ). Keeps T m (get_or sl k spare)) e (h (suc k) (omega arith))),
)

-- a value whose number is the length of its letters
abbrev IsText : Value → Type 0
IsText v = num (cell v) ≡ length (str (cell v))

-- the numbers along the places of p are those of its values
numbers-held : (T : Sheets) (p : Path) (i : ℕ) (sl : List Slot) → KeptFrom T i sl → each (value_at T.cells) (places (is_held p) i sl) ≡ each num (each cell (held_by p sl))
numbers-held T p i [] k = refl
numbers-held T p i (spare ∷ sl) (k, ks) = numbers-held T p (suc i) sl ks
numbers-held T p i (holds e ∷ sl) (k, ks) = go (same e.node p) (numbers-held T p (suc i) sl ks)
  where
    go : (b : Bool) → each (value_at T.cells) (places (is_held p) (suc i) sl) ≡ each num (each cell (held_by p sl))
        → each (value_at T.cells) (cond b (i ∷ places (is_held p) (suc i) sl) (places (is_held p) (suc i) sl)) ≡ each num (each cell (cond b (e.said ∷ held_by p sl) (held_by p sl)))
    go true h = ap (λ n. n ∷ each (value_at T.cells) (places (is_held p) (suc i) sl)) k.0 ∙ ap (λ ns. num (cell e.said) ∷ ns) h
    go false h = h

-- the pieces of these cells end among the letters
abbrev Among : Sheets → List ℕ → Type 0
Among T ks = AllByRecursion (λ k. start_at T.cells k + value_at T.cells k ≤ T.filled) ks

-- where they are texts, the pieces there are their letters, and end among those of the table
pieces-held : (T : Sheets) (p : Path) (i : ℕ) (sl : List Slot) → KeptFrom T i sl → AllByRecursion IsText (held_by p sl)
    → (each (piece_at T.cells T.text) (places (is_held p) i sl) ≡ each str (each cell (held_by p sl))) × Among T (places (is_held p) i sl)
pieces-held T p i [] k a = (refl, tt)
pieces-held T p i (spare ∷ sl) (k, ks) a = pieces-held T p (suc i) sl ks a
pieces-held T p i (holds e ∷ sl) (k, ks) a = go (same e.node p) (λ a. pieces-held T p (suc i) sl ks a) a
  where
    go : (b : Bool)
        → (AllByRecursion IsText (held_by p sl) → (each (piece_at T.cells T.text) (places (is_held p) (suc i) sl) ≡ each str (each cell (held_by p sl))) × Among T (places (is_held p) (suc i) sl))
        → AllByRecursion IsText (cond b (e.said ∷ held_by p sl) (held_by p sl))
        → (each (piece_at T.cells T.text) (cond b (i ∷ places (is_held p) (suc i) sl) (places (is_held p) (suc i) sl)) ≡ each str (each cell (cond b (e.said ∷ held_by p sl) (held_by p sl))))
        × Among T (cond b (i ∷ places (is_held p) (suc i) sl) (places (is_held p) (suc i) sl))
    go true more (t, a) =
        let ih = more a in
        let piece : piece_at T.cells T.text i ≡ str (cell e.said) = ap (λ n. take n (drop (start_at T.cells i) T.text)) (k.0 ∙ t) ∙ k.2 in
        (ap (λ xs. xs ∷ each (piece_at T.cells T.text) (places (is_held p) (suc i) sl)) piece ∙ ap (λ xs. str (cell e.said) ∷ xs) ih.0, (omega (arith, k.0, k.1, t), ih.1))
    go false more a = more a

-- ---- the values of a node

-- a value that takes cells
abbrev Celling : Value → Type 0
Celling v = 0 < cells v

-- an entry at another node
held-other : (p : Path) (e : Entry) (n : ℕ) (sl : List Slot) → same e.node p ≡ false → held_by p (slotted e n ++ sl) ≡ held_by p sl
held-other p e zero sl f = refl
held-other p e (suc zero) sl f = cond-false (same e.node p) _ _ f
held-other p e (suc (suc n)) sl f = cond-false (same e.node p) _ _ f

-- an entry at p
held-here : (p : Path) (e : Entry) (n : ℕ) (sl : List Slot) → 0 < n → same e.node p ≡ true → held_by p (slotted e n ++ sl) ≡ e.said ∷ held_by p sl
held-here p e zero sl l t = absurd (omega arith)
held-here p e (suc zero) sl l t = cond-true (same e.node p) _ _ t
held-here p e (suc (suc n)) sl l t = cond-true (same e.node p) _ _ t

-- where all values at p take cells, these are the values in p's cells
held_at : (p : Path) (ts : List Entry) → AllByRecursion Celling (at p ts) → held_by p (slots_of ts) ≡ at p ts
held_at p [] a = refl
held_at p (e ∷ es) a = ⊎_elim
    (λ t. let b = subst (AllByRecursion Celling) (cond-true (same e.node p) (e.said ∷ at p es) (at p es) t) a in
    held-here p e (cells e.said) (slots_of es) b.0 t ∙ ap (λ vs. e.said ∷ vs) (held_at p es b.1) ∙ sym (cond-true (same e.node p) _ _ t))
    (λ f. let b = subst (AllByRecursion Celling) (cond-false (same e.node p) (e.said ∷ at p es) (at p es) f) a in
    held-other p e (cells e.said) (slots_of es) f ∙ held_at p es b ∙ sym (cond-false (same e.node p) _ _ f))
    (cases_Bool (same e.node p))

-- ---- kinds

-- a kind whose values take cells
abbrev Celled : Kind → Type 0
Celled (SCALAR k) = Unit {0}
Celled TEXT = Unit {0}
Celled SEQ = Unit {0}
Celled MAP = Unit {0}
Celled ENUM = Unit {0}
Celled UNIT = ⊥
Celled (TUPLE n) = ⊥

-- a length takes a cell or two
length-cells : (n : ℕ) → 0 < cond (ltb n 255) 1 2
length-cells n = cond_both (ltb n 255) 1 2 (λ k. 0 < k) (λ _. omega arith) (λ _. omega arith)

-- each value of such a kind takes cells
celling : (v : Value) → Celled (kind v) → Celling v
celling (scalar k b) h = omega arith
celling (text bs) h = length-cells (length bs)
celling unit h = absurd h
celling none h = omega arith
celling some h = omega arith
celling (variant i) h = omega arith
celling (seq n) h = length-cells n
celling (map n) h = length-cells n
celling (tuple n) h = absurd h

-- the number of a text is its length
text-kind : (v : Value) → kind v ≡ TEXT → IsText v
text-kind (scalar k b) e = cc
text-kind (text bs) e = refl
text-kind unit e = cc
text-kind none e = cc
text-kind some e = cc
text-kind (variant i) e = cc
text-kind (seq n) e = cc
text-kind (map n) e = cc
text-kind (tuple n) e = cc

-- values of one kind, with a fact of the kind
all_of_kind : (P : Value → Type 0) (Q : Kind → Type 0) → ((v : Value) → Q (kind v) → P v) → (K : Kind) → Q K → (vs : List Value) → AllByRecursion (λ v. kind v ≡ K) vs → AllByRecursion P vs
all_of_kind P Q h K q vs a = All-weaker (λ v. kind v ≡ K) P (λ v e. h v (subst Q (sym e) q)) vs a

-- ---- the bytes of a node

-- what the cells of a node's values tell: their numbers where they take cells, and their letters where they are texts
pub record Tells (vs : List Value) (xs : List ℕ) (ps : List (List ℕ)) : Type 0 where
  pub numbers : AllByRecursion Celling vs → xs ≡ each num (each cell vs)
  pub letters : AllByRecursion Celling vs → AllByRecursion IsText vs → ps ≡ each str (each cell vs)

-- the bytes of values of one kind
bytes-of : (col : Meaning) (K : Kind) (vs : List Value) (xs : List ℕ) (ps : List (List ℕ)) → AllByRecursion (λ v. kind v ≡ K) vs → Tells vs xs ps
    → image_by col (mark_of K) xs ps ≡ columns col K (each cell vs)
unfolding columns
bytes-of col (SCALAR k) vs xs ps a t = ap (col.image (width k)) (t.numbers (all_of_kind Celling Celled celling (SCALAR k) tt vs a))
bytes-of col TEXT vs xs ps a t =
    let c = all_of_kind Celling Celled celling TEXT tt vs a in
    ap (λ ns. length_bytes col ns ++ joined ps) (t.numbers c) ∙ ap (λ ls. length_bytes col (each num (each cell vs)) ++ joined ls) (t.letters c (All-weaker (λ v. kind v ≡ TEXT) IsText text-kind vs a))
bytes-of col SEQ vs xs ps a t = ap (length_bytes col) (t.numbers (all_of_kind Celling Celled celling SEQ tt vs a))
bytes-of col MAP vs xs ps a t = ap (length_bytes col) (t.numbers (all_of_kind Celling Celled celling MAP tt vs a))
bytes-of col ENUM vs xs ps a t = ap (col.image 8) (t.numbers (all_of_kind Celling Celled celling ENUM tt vs a))
bytes-of col UNIT vs xs ps a t = refl
bytes-of col (TUPLE n) vs xs ps a t = refl

-- .. of a node's values
image-by : (col : Meaning) (vs : List Value) (xs : List ℕ) (ps : List (List ℕ)) → OneKind vs → Tells vs xs ps → image_by col (mark_at vs) xs ps ≡ written col vs
image-by col [] xs ps o t = refl
image-by col (v ∷ vs) xs ps o t = bytes-of col (kind v) (v ∷ vs) xs ps (refl, o) t

-- ---- the tables

module _ (T : Sheets) (ts : List Entry) (h : Holds T ts) where
  -- the cells keep what stands in them
  kept : KeptFrom T 1 (slots_of ts)
  kept = kept_from T 1 (slots_of ts) (λ k l. subst (λ (m : ℕ). Keeps T m (get_or (slots_of ts) k spare)) (sym (one-add k)) (h.holding.values k l))

  -- a walk sees the cells of the node
  along : (r : ℕ) (p : Path) → Home (nodes_of ts) r p → in_chain T.cells (node T r).cells ≡ places (is_held p) 1 (slots_of ts)
  along r p home = runs-course (each (λ c. c.next) T.cells) (node T r).cells.first (places (is_held p) 1 (slots_of ts)) (h.holding.cells r p home).0

  -- .. which tell its values
  tells : (r : ℕ) (p : Path) → Home (nodes_of ts) r p → Tells (at p ts) (values_of T.cells (node T r).cells) (pieces_of T.cells T.text (node T r).cells)
  tells r p home =
      record {
        numbers = λ c. ap (each (value_at T.cells)) (along r p home) ∙ numbers-held T p 1 (slots_of ts) kept ∙ ap (λ vs. each num (each cell vs)) (held_at p ts c);
        letters = λ c t. let e = held_at p ts c in
            ap (each (piece_at T.cells T.text)) (along r p home) ∙ (pieces-held T p 1 (slots_of ts) kept (subst (AllByRecursion IsText) (sym e) t)).0 ∙ ap (λ vs. each str (each cell vs)) e;
      }

  -- the bytes of a record are those of its node
  record-bytes : (col : Meaning) (r : ℕ) (p : Path) → Home (nodes_of ts) r p → OneKind (at p ts) → node_image col T.cells T.text (node T r) ≡ node_bytes col ts p
  record-bytes col r p home o =
      ap (λ m. image_by col m (values_of T.cells (node T r).cells) (pieces_of T.cells T.text (node T r).cells)) (h.holding.marks r p home)
      ∙ image-by col (at p ts) _ _ o (tells r p home)

-- one list more at the end
joined-push : (xs : List (List ℕ)) (x : List ℕ) → joined (xs ++ x ∷ []) ≡ joined xs ++ x
joined-push [] x = append-nil x
joined-push (y ∷ xs) x = ap (λ zs. y ++ zs) (joined-push xs x) ∙ sym (append_assoc y (joined xs) x)

-- the bytes of the first n records that were marked
bytes-up-to : (col : Meaning) (T : Sheets) (ts : List Entry) (h : Holds T ts) → ((q : Path) → Sound (at q ts)) → (n : ℕ) → n ≤ length (firsts ts)
    → image_up_to col T n ≡ joined (each (node_bytes col ts) (take n (firsts ts)))
bytes-up-to col T ts h s zero m = refl
bytes-up-to col T ts h s (suc n) m =
    let fs = firsts ts in
    let p = get_or fs n root in
    let here = record-bytes T ts h col (node T (suc n)).order p (h.holding.order n (omega arith)) (s p).one-kind in
    ap (λ zs. zs ++ node_image col T.cells T.text (ordered T n)) (bytes-up-to col T ts h s n (omega arith))
    ∙ ap (λ zs. joined (each (node_bytes col ts) (take n fs)) ++ zs) here
    ∙ sym (joined-push (each (node_bytes col ts) (take n fs)) (node_bytes col ts p))
    ∙ ap joined (sym (map_push (node_bytes col ts) (take n fs) p))
    ∙ ap (λ zs. joined (each (node_bytes col ts) zs)) (sym (take-suc fs n root (omega arith)))

-- The bytes that write-out puts are those of the document.
pub image-bytes : (col : Meaning) (T : Sheets) (ts : List Entry) → Holds T ts → ((q : Path) → Sound (at q ts)) → image_of col T ≡ bytes_of col ts
unfolding image_of
image-bytes col T ts h s =
    ap (image_up_to col T) h.holding.marked ∙ bytes-up-to col T ts h s (length (firsts ts)) (omega arith)
    ∙ ap (λ zs. joined (each (node_bytes col ts) zs)) (take_all (length (firsts ts)) (firsts ts) (omega arith))

-- What write-out answers is what the document's definition says, where it is told whether the document is complete.
pub wrote-out : (col : Meaning) (T : Sheets) (cs : List Call) (scratch output : List ℕ) → Holds T (trace start cs) → ((q : Path) → Sound (at q (trace start cs)))
    → T.taken - 1 ≡ cells_of (trace start cs)
    → wrote (none_open (places_after start cs)) (T.taken - 1) (image_of col T) scratch output ≡ write_out col cs (length scratch) (length output)
wrote-out col T cs scratch output h s e =
    ap (λ n. wrote (none_open (places_after start cs)) n (image_of col T) scratch output) e
    ∙ ap (λ bs. wrote (none_open (places_after start cs)) (cells_of (trace start cs)) bs scratch output) (image-bytes col T (trace start cs) h s)

-- ---- bounds

-- there are no more places of some kind than of all
places-few : {X : Type 0} (test : X → Bool) (i : ℕ) (xs : List X) → length (places test i xs) ≤ length xs
places-few test i [] = omega arith
places-few test i (x ∷ xs) =
    let ih = places-few test (suc i) xs in
    cond_both (test x) (i ∷ places test (suc i) xs) (places test (suc i) xs) (λ is. length is ≤ suc (length xs)) (λ _. omega arith) (λ _. omega arith)

-- the width of the columns of a kind's values: of lengths, the second's
abbrev bits_of : Kind → ℕ
bits_of (SCALAR k) = width k
bits_of TEXT = 64
bits_of SEQ = 64
bits_of MAP = 64
bits_of ENUM = 8
bits_of UNIT = 64
bits_of (TUPLE n) = 64

-- a length below the limit fits
length-fits : (n : ℕ) → n < limit → n < 2 ^ 64
length-fits n h = omega arith

-- a value that fits is below its kind's width
value-fits : (v : Value) → Fits v → extent v < limit → Celled (kind v) → num (cell v) < 2 ^ bits_of (kind v)
value-fits (scalar k b) f l c = f
value-fits (text bs) f l c = length-fits (length bs) l
value-fits unit f l c = absurd c
value-fits none f l c = omega arith
value-fits some f l c = omega arith
value-fits (variant i) f l c = omega arith
value-fits (seq n) f l c = length-fits n l
value-fits (map n) f l c = length-fits n l
value-fits (tuple n) f l c = absurd c

-- .. and so are all values of a kind
values-fit : (K : Kind) (vs : List Value) → Celled K → AllByRecursion (λ v. kind v ≡ K) vs → AllByRecursion Fits vs → total extent vs < limit → Below (bits_of K) (each num (each cell vs))
values-fit K [] c a f l = tt
values-fit K (v ∷ vs) c (e, a) (f, fs) l = (
  subst (λ (k : Kind). num (cell v) < 2 ^ bits_of k) e (value-fits v f (omega arith) (subst Celled (sym e) c)),
  values-fit K vs c a fs (omega arith),
)

-- what a mark asks of the values
fits_by : (K : Kind) (xs : List ℕ) → (Celled K → Below (bits_of K) xs) → FitsMark (mark_of K) xs
fits_by (SCALAR k) xs h = h tt
fits_by TEXT xs h = h tt
fits_by SEQ xs h = h tt
fits_by MAP xs h = h tt
fits_by ENUM xs h = h tt
fits_by UNIT xs h = tt
fits_by (TUPLE n) xs h = tt

-- the values of a sound node fit its mark
mark-fits : (vs : List Value) (xs : List ℕ) (ps : List (List ℕ)) → Sound vs → Tells vs xs ps → FitsMark (mark_at vs) xs
mark-fits [] xs ps s t = tt
mark-fits (v ∷ vs) xs ps s t =
    fits_by (kind v) xs (λ c. let a : AllByRecursion (λ u. kind u ≡ kind v) (v ∷ vs) = (refl, s.one-kind) in
    subst (Below (bits_of (kind v))) (sym (t.numbers (all_of_kind Celling Celled celling (kind v) c (v ∷ vs) a))) (values-fit (kind v) (v ∷ vs) c a s.fits s.short-of))

-- what a mark asks of the pieces
pieces-by : (K : Kind) (T : Sheets) (ks : List ℕ) → (K ≡ TEXT → Pieces T.cells T.text ks) → PiecesBy (mark_of K) T.cells T.text ks
pieces-by (SCALAR k) T ks h = tt
pieces-by TEXT T ks h = h refl
pieces-by SEQ T ks h = tt
pieces-by MAP T ks h = tt
pieces-by ENUM T ks h = tt
pieces-by UNIT T ks h = tt
pieces-by (TUPLE n) T ks h = tt

-- and its pieces lie within the text
mark-pieces : (vs : List Value) (T : Sheets) (ks : List ℕ) → OneKind vs → (AllByRecursion Celling vs → AllByRecursion IsText vs → Pieces T.cells T.text ks) → PiecesBy (mark_at vs) T.cells T.text ks
mark-pieces [] T ks o h = tt
mark-pieces (v ∷ vs) T ks o h =
    pieces-by (kind v) T ks (λ e. let a : AllByRecursion (λ u. kind u ≡ kind v) (v ∷ vs) = (refl, o) in
    h (all_of_kind Celling Celled celling (kind v) (subst Celled (sym e) tt) (v ∷ vs) a) (All-weaker (λ u. kind u ≡ kind v) IsText (λ u k. text-kind u (k ∙ e)) (v ∷ vs) a))

-- The tables keep write-out within its buffers.
pub out-safe : (T : Sheets) (ts : List Entry) (n : ℕ) → Holds T ts → ((q : Path) → Sound (at q ts)) → T.used ≤ length T.nodes → T.marked < T.used → T.filled ≤ length T.text
    → T.taken - 1 ≤ n → OutSafe T n
out-safe T ts n h s u m l c =
    record {
      listed = λ j k. omega arith;
      within = λ j k. let home = h.holding.order j (omega (arith, h.holding.marked)) in omega (arith, home.1, h.holding.used);
      safe = λ j k.
          let p = get_or (firsts ts) j root in
          let r = (node T (suc j)).order in
          let home : Home (nodes_of ts) r p = h.holding.order j (omega (arith, h.holding.marked)) in
          let go = along T ts h r p home in
          record {
            few = omega (arith, ap length go, places-few (is_held p) 1 (slots_of ts), h.holding.taken);
            fits = subst (λ (x : Mark). FitsMark x (values_of T.cells (node T r).cells)) (sym (h.holding.marks r p home)) (mark-fits (at p ts) _ _ (s p) (tells T ts h r p home));
            pieces = subst (λ (x : Mark). PiecesBy x T.cells T.text (in_chain T.cells (node T r).cells)) (sym (h.holding.marks r p home))
                (mark-pieces (at p ts) T (in_chain T.cells (node T r).cells) (s p).one-kind
                (λ a t. subst (Pieces T.cells T.text) (sym go)
                (All-weaker (λ i. start_at T.cells i + value_at T.cells i ≤ T.filled) _ (λ i b. omega arith) (places (is_held p) 1 (slots_of ts)) (pieces-held T p 1 (slots_of ts) (kept T ts h) (subst (AllByRecursion IsText) (sym (held_at p ts a)) t)).1)));
          };
    }
