-- One value goes into the tables, by all its moves.
use Rattle.std.proofs.Common.{◌≡◌, ℕ, ◌+◌, ◌<◌, ◌≤◌, Bool, true, false, cond, ltb, ◌≢◌, List, [], ◌∷◌, ◌++◌, length, take, drop, Option, sym, refl, ap, ◌∙◌, arith, length-append, length-take}
use lib.Seq.{take-append_seam, drop-append_seam}
use Rattle.std.specs.declared.option.Option.TheVariants as options
use Rattle.std.proofs.lemmas.List.{drop-take}
use Rattle.column.specs.Interface.{overlaid}
use Rattle.column.proofs.Overlaid.{length-overlaid, take-overlaid}
use Rattle.chain.proofs.Tables.{length-adjust, length-appended}
use Rattle.document.specs.Calls.{Value, scalar, text, unit, none, some, variant, seq, map, tuple, kind, cell, num, str, extent, val}
use Rattle.document.specs.Nodes.{Path, ◌▹◌, alt}
use Rattle.document.specs.Entries.{Entry, entry, at}
use Rattle.document.specs.Tables.{cells, cells_of, letters_of, usable_cells, branch_of}
use Rattle.document.specs.Records.{nodes_of, marked, new_child, had, times}
use Rattle.document.proofs.Growth.{nodes-snoc, cells-more, letters-more}
use Rattle.nodes.specs.declared.marks.Mark.{Mark}
use Rattle.nodes.specs.Marks.{mark_of}
use Rattle.nodes.specs.Homes.{Home}
use Rattle.ser.specs.declared.loads.Load.{Load}
use Rattle.ser.specs.Brings.{index_of, load_of}
use Rattle.ser.specs.Moves.{Sheets, with_sum, cell_with_next, touched, kept, lettered, branched, put, put_child}
use Rattle.ser.specs.Tables.{sizes_of}
use Rattle.ser.specs.Held.{Holds}
use Rattle.ser.proofs.Found.{length-slots, some-cells}
use Rattle.ser.proofs.Moving.{stored, new_cell}
use Rattle.ser.proofs.Moved.{length-touched, touched-rest, length-branched, branched-rest}
use Rattle.ser.proofs.Entering.{Found, Branched, touches, branches, keeps-none, keeps-some}

-- ---- what the moves on nodes leave

-- the other tables are as they were, and the nodes as many
record Beside (T U : Sheets) : Type 0 where
  nodes : length U.nodes ≡ length T.nodes
  cells : U.cells ≡ T.cells
  text : U.text ≡ T.text

beside-touched : (r : ℕ) (m : Mark) (T : Sheets) → Beside T (touched r m T)
beside-touched r m T = record { nodes = length-touched r m T; cells = touched-rest r m T (λ U. U.cells) (λ r i U. refl) (λ r m U. refl); text = touched-rest r m T (λ U. U.text) (λ r i U. refl) (λ r m U. refl) }

beside-branched : (r k : ℕ) (o : Option ℕ) (T : Sheets) → Beside T (branched r k o T)
beside-branched r k o T = record { nodes = length-branched r k T o; cells = branched-rest r k T (λ U. U.cells) (λ r i U. refl) o; text = branched-rest r k T (λ U. U.text) (λ r i U. refl) o }

-- ---- letters

-- what stands before the letters stays
overlaid-before : (f : ℕ) (bs old : List ℕ) → f ≤ length old → (s n : ℕ) → s + n ≤ f → take n (drop s (overlaid f bs old)) ≡ take n (drop s old)
overlaid-before f bs old h s n l = sym (drop-take s n (overlaid f bs old)) ∙ ap (drop s) (take-overlaid (s + n) f bs old l h) ∙ drop-take s n old

-- the letters stand there
overlaid-there : (f : ℕ) (bs old : List ℕ) → f ≤ length old → take (length bs) (drop f (overlaid f bs old)) ≡ bs
overlaid-there f bs old h =
    let n : length (take f old) ≡ f = length-take f old ∙ omega arith in
    ap (take (length bs)) (ap (λ k. drop k (overlaid f bs old)) (sym n) ∙ drop-append_seam (take f old) (bs ++ drop (f + length bs) old)) ∙ take-append_seam bs (drop (f + length bs) old)

-- ---- the value

module _ (T : Sheets) (ts : List Entry) (H : Holds T ts) (r : ℕ) (p : Path) (home : Home (nodes_of ts) r p) (seen : (q : Path) → at q ts ≢ [] → times q (nodes_of ts) ≡ 1) (U : Sheets) where
  -- a number or an index
  keeps-number : (v : Value) → cells v ≡ 1 → str (cell v) ≡ [] → Branched T ts H r p home v seen U → r < length U.nodes → U.taken < length U.cells
      → Holds (stored r (num (cell v)) 1 (extent v) U.text U.filled U) (ts ++ entry p v ∷ [])
  keeps-number v one plain G l c =
      keeps-some T ts H r p home v seen 0 one refl U G l c U.text U.filled (λ s n h. refl) (omega (arith, ap length plain)) (ap (λ bs. take (length bs) (drop U.filled U.text)) plain ∙ sym plain)

  -- a length
  keeps-length : (v : Value) (n : ℕ) → cells v ≡ cond (ltb n 255) 1 2 → Branched T ts H r p home v seen U → r < length U.nodes → U.taken < length U.cells
      → (txt : List ℕ) (size : ℕ) → ((s n : ℕ) → s + n ≤ U.filled → take n (drop s txt) ≡ take n (drop s U.text)) → U.filled + length (str (cell v)) ≡ size → take (length (str (cell v))) (drop U.filled txt) ≡ str (cell v)
      → Holds (stored r (num (cell v)) (cond (ltb n 255) 1 2) (extent v) txt size U) (ts ++ entry p v ∷ [])
  keeps-length v n many G l c txt size before room piece = go (ltb n 255) refl
    where
      go : (b : Bool) → ltb n 255 ≡ b → Holds (stored r (num (cell v)) (cond b 1 2) (extent v) txt size U) (ts ++ entry p v ∷ [])
      go true e = keeps-some T ts H r p home v seen 0 (many ∙ ap (λ b. cond b 1 2) e) refl U G l c txt size before room piece
      go false e = keeps-some T ts H r p home v seen 1 (many ∙ ap (λ b. cond b 1 2) e) refl U G l c txt size before room piece

-- a value goes to its cell, and its letters to the text
keeps-value : (T : Sheets) (ts : List Entry) (H : Holds T ts) (r : ℕ) (p : Path) (home : Home (nodes_of ts) r p) (v : Value) (seen : (q : Path) → at q ts ≢ [] → times q (nodes_of ts) ≡ 1)
    → (U : Sheets) → Branched T ts H r p home v seen U → r < length U.nodes → (0 < cells v → U.taken < length U.cells) → U.filled + length (str (cell v)) ≤ length U.text
    → Holds (lettered (val v) (kept r (load_of v) U)) (ts ++ entry p v ∷ [])
keeps-value T ts H r p home (scalar k b) seen U G l c t = keeps-number T ts H r p home seen U (scalar k b) refl refl G l (c (omega arith))
keeps-value T ts H r p home (text bs) seen U G l c t = keeps-length T ts H r p home seen U (text bs) (length bs) refl G l (c (some-cells (length bs))) (overlaid U.filled bs U.text) (U.filled + length bs) (overlaid-before U.filled bs U.text (omega arith)) refl (overlaid-there U.filled bs U.text (omega arith))
keeps-value T ts H r p home unit seen U G l c t = keeps-none T ts H r p home unit seen refl refl refl U G
keeps-value T ts H r p home none seen U G l c t = keeps-number T ts H r p home seen U none refl refl G l (c (omega arith))
keeps-value T ts H r p home some seen U G l c t = keeps-number T ts H r p home seen U some refl refl G l (c (omega arith))
keeps-value T ts H r p home (variant i) seen U G l c t = keeps-number T ts H r p home seen U (variant i) refl refl G l (c (omega arith))
keeps-value T ts H r p home (seq n) seen U G l c t = keeps-length T ts H r p home seen U (seq n) n refl G l (c (some-cells n)) U.text U.filled (λ s n h. refl) (omega arith) refl
keeps-value T ts H r p home (map n) seen U G l c t = keeps-length T ts H r p home seen U (map n) n refl G l (c (some-cells n)) U.text U.filled (λ s n h. refl) (omega arith) refl
keeps-value T ts H r p home (tuple n) seen U G l c t = keeps-none T ts H r p home (tuple n) seen refl refl refl U G

-- ---- lengths

-- tables of the same lengths
pub same-sizes : (T U : Sheets) → length U.nodes ≡ length T.nodes → length U.cells ≡ length T.cells → length U.text ≡ length T.text → sizes_of U ≡ sizes_of T
same-sizes T U a b c = cc

-- a value's cell and sum change no length
length-kept : (r : ℕ) (load : Option Load) (U : Sheets) → (length (kept r load U).nodes ≡ length U.nodes) × (length (kept r load U).cells ≡ length U.cells) × ((kept r load U).text ≡ U.text) × ((kept r load U).filled ≡ U.filled)
length-kept r options.None U = (refl, refl, refl, refl)
length-kept r (options.Some x) U = (length-adjust _ r _ ∙ length-adjust (with_sum x.extent) r U.nodes, length-appended cell_with_next U.cells _ U.taken (new_cell x.value U.filled), refl, refl)

-- nor do its letters
sizes-lettered : (v : Value) (U : Sheets) → U.filled + length (str (cell v)) ≤ length U.text → sizes_of (lettered (val v) U) ≡ sizes_of U
sizes-lettered (scalar k b) U h = refl
sizes-lettered (text bs) U h = same-sizes U (lettered (val (text bs)) U) refl refl (length-overlaid U.filled bs U.text h)
sizes-lettered unit U h = refl
sizes-lettered none U h = refl
sizes-lettered some U h = refl
sizes-lettered (variant i) U h = refl
sizes-lettered (seq n) U h = refl
sizes-lettered (map n) U h = refl
sizes-lettered (tuple n) U h = refl

-- ---- one value

-- room in tables of these lengths for what the entries take
pub record Room (T : Sheets) (ts : List Entry) : Type 0 where
  pub nodes : 1 + length (nodes_of ts) ≤ length T.nodes
  pub cells : cells_of ts ≤ usable_cells (length T.cells)
  pub letters : letters_of ts ≤ length T.text

-- the tables after one value at the record r: they hold it, the child of its index has its record, and no length has changed
pub record Put (T : Sheets) (ts : List Entry) (r k : ℕ) (p : Path) (v : Value) : Type 0 where
  pub holds : Holds (put r k (val v) T) (ts ++ entry p v ∷ [])
  pub child : (i : ℕ) → index_of v ≡ options.Some i → Home (nodes_of (ts ++ entry p v ∷ [])) (put_child r k (val v) T) (p ▹ alt i)
  pub sizes : sizes_of (put r k (val v) T) ≡ sizes_of T

pub puts : (T : Sheets) (ts : List Entry) → Holds T ts → (r : ℕ) (p : Path) → Home (nodes_of ts) r p → (v : Value) → ((q : Path) → at q ts ≢ [] → times q (nodes_of ts) ≡ 1)
    → (k : ℕ) → Found (nodes_of ts) k p v → Room T (ts ++ entry p v ∷ []) → Put T ts r k p v
puts T ts H r p home v seen k found room =
    let e = entry p v in
    let m = mark_of (kind v) in
    let fam = marked (at p ts) p (kind v) in
    let new = new_child (had (λ i. false) (at p ts)) p (branch_of v) in
    let nodes = ap length (nodes-snoc ts e) ∙ length-append (nodes_of ts) (fam ++ new) in
    let parts = length-append fam new in
    let used = H.holding.used in
    let within = home.1 in
    let wide = room.nodes in
    let U = touched r m T in
    let G = touches T ts H r p home v seen (omega arith) in
    let b = beside-touched r m T in
    let V = branched r k (index_of v) U in
    let B = branches T ts H r p home v seen k found U G (omega (arith, b.nodes)) (λ some. omega (arith, b.nodes, G.used, length-append (nodes_of ts) fam, not_none new some)) in
    let d = beside-branched r k (index_of v) U in
    let long = cells-more ts (e ∷ []) in
    let letters = letters-more ts (e ∷ []) in
    let cell_room = room.cells in
    let letter-room = room.letters in
    let taken = B.0.taken in
    let filled = B.0.filled in
    let fits : V.filled + length (str (cell v)) ≤ length V.text = omega (arith, ap length (d.text ∙ b.text)) in
    let S = keeps-value T ts H r p home v seen V B.0 (omega (arith, d.nodes, b.nodes)) (λ some. omega (arith, length-slots ts, ap length (d.cells ∙ b.cells))) fits in
    let z = length-kept r (load_of v) V in
    record {
      holds = S;
      child = B.1;
      sizes = sizes-lettered v (kept r (load_of v) V) (omega (arith, z.3, ap length z.2))
          ∙ same-sizes T (kept r (load_of v) V) (z.0 ∙ d.nodes ∙ b.nodes) (z.1 ∙ ap length (d.cells ∙ b.cells)) (ap length (z.2 ∙ d.text ∙ b.text));
    }
  where
    not_none : (xs : List Path) → xs ≢ [] → 1 ≤ length xs
    not_none [] h = absurd (h refl)
    not_none (x ∷ xs) h = omega arith
