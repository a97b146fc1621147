-- What `columns` writes, `fetch` reads back.
use Rattle.std.proofs.Common.{◌≡◌, ℕ, suc, ◌+◌, ◌-◌, ◌^◌, ◌<◌, ◌≤◌, Bool, true, false, cond, ltb, leb, List, [], ◌∷◌, ◌++◌, map as each, length, drop, replicate, sym, refl, ap, ◌∙◌, ap₂, append_assoc, arith, length-append}
use lib.ListN.{length-map}
use Rattle.std.proofs.lemmas.Bool.Decides.{nat_tests}
use Rattle.std.proofs.lemmas.List.{drop_at, take_at}
use Rattle.std.proofs.lemmas.Bool.{lt-ltb, le-leb, and_from}
use Rattle.column.specs.Meaning.{Meaning, Lawful}
use Rattle.column.specs.Widths.{listed, Below}
use Rattle.document.proofs.Sound.{Fits}
use Rattle.utf8.specs.Passes.{passes}
use Rattle.document.specs.Calls.{width, total, Kind, SCALAR, TEXT, SEQ, MAP, ENUM, UNIT, TUPLE, Cell, number, letters, num, str, Value, scalar, text, unit, none, some, variant, seq, map, tuple, kind, cell, extent}
use Rattle.document.specs.Columns.{short, longs, sum, limit, joined, length_bytes, columns}
use Rattle.document.specs.Fetch.{supply, parted, fetched, and_then, numbers, beyond, merged, limited, lengths, cut, all_pass, tested, texts, as_numbers, as_letters, fetch}
use Rattle.document.specs.Tables.{cells, length_cells}
use Rattle.document.specs.declared.scalars.Scalar.{Scalar}
use Rattle.document.specs.declared.scalars.Scalar.TheVariants.{Bool as Bit, U8, U16, U32, U64, I8, I16, I32, I64, F32}
use Rattle.std.specs.List.{AllByRecursion}

numbers-back : (col : Meaning) (law : Lawful col) (column w : ℕ) (vs bs : List ℕ) (k : ℕ) → listed w ≡ true → Below w vs → length vs ≤ k
    → numbers col column w (length vs) (supply k (col.image w vs ++ bs)) ≡ fetched vs (supply (k - length vs) bs)
numbers-back col law column w vs bs k l b h =
    rw (le-leb (length vs) k h, law.reads w vs bs l b, drop_at (col.image w vs) bs (length (col.image w vs)) refl) refl

shorts-below : (ns : List ℕ) → Below 8 (each short ns)
shorts-below [] = tt
shorts-below (n ∷ ns) = (grind (arith, nat_tests), shorts-below ns)

longs-below : (ns : List ℕ) → sum ns < limit → Below 64 (longs ns)
longs-below [] h = tt
longs-below (n ∷ ns) h = go (ltb n 255) (longs-below ns (omega arith))
  where
    go : (b : Bool) → Below 64 (longs ns) → Below 64 (cond b (longs ns) (n ∷ longs ns))
    go true k = k
    go false k = (omega arith, k)

beyond-is : (ns : List ℕ) → beyond (each short ns) ≡ length (longs ns)
beyond-is [] = refl
beyond-is (n ∷ ns) = let h = beyond-is ns in grind (arith, nat_tests)

merged-back : (ns : List ℕ) → merged (each short ns) (longs ns) ≡ ns
merged-back [] = refl
merged-back (n ∷ ns) = let h = merged-back ns in grind (arith, nat_tests)

lengths-back : (col : Meaning) (law : Lawful col) (column : ℕ) (ns bs : List ℕ) (k : ℕ) → sum ns < limit → length ns + length (longs ns) ≤ k
    → lengths col column (length ns) (supply k (length_bytes col ns ++ bs)) ≡ fetched ns (supply (k - (length ns + length (longs ns))) bs)
lengths-back col law column ns bs k h room =
    let e₁ : numbers col column 8 (length ns) (supply k (length_bytes col ns ++ bs)) ≡ fetched (each short ns) (supply (k - length ns) (col.image 64 (longs ns) ++ bs)) =
    rw (append_assoc, ← (length-map ns short)) (numbers-back col law column 8 (each short ns) (col.image 64 (longs ns) ++ bs) k refl (shorts-below ns) (omega (arith, length-map ns short))) in
    let e₂ : numbers col (suc column) 64 (beyond (each short ns)) (supply (k - length ns) (col.image 64 (longs ns) ++ bs)) ≡ fetched (longs ns) (supply (k - length ns - length (longs ns)) bs) =
    rw (beyond-is ns) (numbers-back col law (suc column) 64 (longs ns) bs (k - length ns) refl (longs-below ns h) (omega arith)) in
    let e₃ : limited (merged (each short ns) (longs ns)) (supply (k - length ns - length (longs ns)) bs) ≡ fetched ns (supply (k - (length ns + length (longs ns))) bs) =
    rw (merged-back ns, lt-ltb (sum ns) limit h) (ap (λ m. fetched ns (supply m bs)) (omega arith)) in
    rw e₁ (rw e₂ e₃)

sum-joined : (ts : List (List ℕ)) → sum (each length ts) ≡ length (joined ts)
sum-joined [] = refl
sum-joined (t ∷ ts) = omega (arith, sum-joined ts, length-append t (joined ts))

cut-back : (ts : List (List ℕ)) (bs : List ℕ) → cut (each length ts) (joined ts ++ bs) ≡ ts
cut-back [] bs = refl
cut-back (t ∷ ts) bs =
    rw (append_assoc, take_at t (joined ts ++ bs) (length t) refl, drop_at t (joined ts ++ bs) (length t) refl, cut-back ts bs) refl

texts-back : (col : Meaning) (law : Lawful col) (column : ℕ) (ts : List (List ℕ)) (bs : List ℕ) (k : ℕ) → sum (each length ts) < limit → all_pass ts ≡ true
    → length (each length ts) + length (longs (each length ts)) ≤ k
    → texts col column (length ts) (supply k ((length_bytes col (each length ts) ++ joined ts) ++ bs)) ≡ fetched ts (supply (k - (length (each length ts) + length (longs (each length ts)))) bs)
texts-back col law column ts bs k h f room =
    let m : ℕ = k - (length (each length ts) + length (longs (each length ts))) in
    let e₁ : lengths col column (length ts) (supply k ((length_bytes col (each length ts) ++ joined ts) ++ bs)) ≡ fetched (each length ts) (supply m (joined ts ++ bs)) =
    rw (append_assoc (length_bytes col (each length ts)) (joined ts) bs, ← (length-map ts length)) (lengths-back col law column (each length ts) (joined ts ++ bs) k h room) in
    let e₂ : leb (sum (each length ts)) (length (joined ts ++ bs)) ≡ true =
    le-leb (sum (each length ts)) (length (joined ts ++ bs)) (omega (arith, sum-joined ts, length-append (joined ts) bs)) in
    let e₃ : tested (cut (each length ts) (joined ts ++ bs)) (supply m (drop (sum (each length ts)) (joined ts ++ bs))) ≡ fetched ts (supply m bs) =
    rw (cut-back ts bs, drop_at (joined ts) bs (sum (each length ts)) (sym (sum-joined ts)), f) refl in
    ap (λ x. and_then x (parted column)) e₁ ∙ rw e₂ e₃

-- ---- by kinds

unfoldable pub is_text : Kind → Bool
is_text (SCALAR k) = false
is_text TEXT = true
is_text SEQ = false
is_text MAP = false
is_text ENUM = false
is_text UNIT = false
is_text (TUPLE n) = false

has_length : Kind → Bool
has_length (SCALAR k) = false
has_length TEXT = true
has_length SEQ = true
has_length MAP = true
has_length ENUM = false
has_length UNIT = false
has_length (TUPLE n) = false

Of : Kind → Value → Type 0
Of K v = kind v ≡ K

as_number : (K : Kind) → is_text K ≡ false → (v : Value) → kind v ≡ K → number (num (cell v)) ≡ cell v
unfolding is_text
as_number K f (scalar k b) e = refl
as_number K f (text bs) e = cc (ap is_text e)
as_number K f unit e = refl
as_number K f none e = refl
as_number K f some e = refl
as_number K f (variant i) e = refl
as_number K f (seq n) e = refl
as_number K f (map n) e = refl
as_number K f (tuple n) e = refl

as-letters : (v : Value) → kind v ≡ TEXT → letters (str (cell v)) ≡ cell v
as-letters (scalar k b) e = cc
as-letters (text bs) e = refl
as-letters unit e = cc
as-letters none e = cc
as-letters some e = cc
as-letters (variant i) e = cc
as-letters (seq n) e = cc
as-letters (map n) e = cc
as-letters (tuple n) e = cc

as-extent : (K : Kind) → has_length K ≡ true → (v : Value) → kind v ≡ K → num (cell v) ≡ extent v
unfolding has_length
as-extent K f (scalar k b) e = cc (ap has_length e)
as-extent K f (text bs) e = refl
as-extent K f unit e = refl
as-extent K f none e = refl
as-extent K f some e = cc (ap has_length e)
as-extent K f (variant i) e = cc (ap has_length e)
as-extent K f (seq n) e = refl
as-extent K f (map n) e = refl
as-extent K f (tuple n) e = cc (ap has_length e)

str-length : (v : Value) → kind v ≡ TEXT → length (str (cell v)) ≡ num (cell v)
str-length (scalar k b) e = cc
str-length (text bs) e = refl
str-length unit e = refl
str-length none e = refl
str-length some e = cc
str-length (variant i) e = cc
str-length (seq n) e = cc
str-length (map n) e = cc
str-length (tuple n) e = cc

str-fine : (v : Value) → kind v ≡ TEXT → Fits v → passes (str (cell v)) ≡ true
str-fine (scalar k b) e f = cc
str-fine (text bs) e f = f
str-fine unit e f = cc
str-fine none e f = cc
str-fine some e f = cc
str-fine (variant i) e f = cc
str-fine (seq n) e f = cc
str-fine (map n) e f = cc
str-fine (tuple n) e f = cc

as-tuple : (n : ℕ) (v : Value) → kind v ≡ TUPLE n → cell v ≡ number n
as-tuple n (scalar k b) e = cc
as-tuple n (text bs) e = cc
as-tuple n unit e = cc
as-tuple n none e = cc
as-tuple n some e = cc
as-tuple n (variant i) e = cc
as-tuple n (seq m) e = cc
as-tuple n (map m) e = cc
as-tuple n (tuple m) e = cc

as-unit : (v : Value) → kind v ≡ UNIT → cell v ≡ number 0
as-unit (scalar k b) e = cc
as-unit (text bs) e = cc
as-unit unit e = cc
as-unit none e = cc
as-unit some e = cc
as-unit (variant i) e = cc
as-unit (seq m) e = cc
as-unit (map m) e = cc
as-unit (tuple m) e = cc

scalar_below : (k : Scalar) (v : Value) → kind v ≡ SCALAR k → Fits v → num (cell v) < 2 ^ width k
scalar_below k (scalar j b) e f = let d : j ≡ k = cc in rw (← d) f
scalar_below k (text bs) e f = cc
scalar_below k unit e f = cc
scalar_below k none e f = cc
scalar_below k some e f = cc
scalar_below k (variant i) e f = cc
scalar_below k (seq n) e f = cc
scalar_below k (map n) e f = cc
scalar_below k (tuple n) e f = cc

enum-below : (v : Value) → kind v ≡ ENUM → Fits v → num (cell v) < 2 ^ 8
enum-below (scalar j b) e f = cc
enum-below (text bs) e f = cc
enum-below unit e f = omega arith
enum-below none e f = omega arith
enum-below some e f = omega arith
enum-below (variant i) e f = omega arith
enum-below (seq n) e f = cc
enum-below (map n) e f = cc
enum-below (tuple n) e f = cc

width-listed : (k : Scalar) → listed (width k) ≡ true
width-listed Bit = refl
width-listed U8 = refl
width-listed U16 = refl
width-listed U32 = refl
width-listed U64 = refl
width-listed I8 = refl
width-listed I16 = refl
width-listed I32 = refl
width-listed I64 = refl
width-listed F32 = refl

-- ---- lists of values of one kind

nums : List Value → List ℕ
nums vs = each num (each cell vs)

nums-length : (vs : List Value) → length (nums vs) ≡ length vs
unfolding nums
nums-length [] = refl
nums-length (v ∷ vs) = ap suc (nums-length vs)

as-numbers : (K : Kind) → is_text K ≡ false → (vs : List Value) → AllByRecursion (λ v. kind v ≡ K) vs → each number (nums vs) ≡ each cell vs
unfolding nums
as-numbers K f [] h = refl
as-numbers K f (v ∷ vs) h = ap₂ {C = List Cell} ◌∷◌ (as_number K f v h.0) (as-numbers K f vs h.1)

as-extents : (K : Kind) → has_length K ≡ true → (vs : List Value) → AllByRecursion (λ v. kind v ≡ K) vs → sum (nums vs) ≡ total extent vs
unfolding nums
as-extents K f [] h = refl
as-extents K f (v ∷ vs) h = ap₂ ◌+◌ (as-extent K f v h.0) (as-extents K f vs h.1)

scalars-below : (k : Scalar) (vs : List Value) → AllByRecursion (λ v. kind v ≡ SCALAR k) vs → AllByRecursion (Fits) vs → Below (width k) (nums vs)
unfolding nums
scalars-below k [] h f = tt
scalars-below k (v ∷ vs) h f = (scalar_below k v h.0 f.0, scalars-below k vs h.1 f.1)

enums-below : (vs : List Value) → AllByRecursion (λ v. kind v ≡ ENUM) vs → AllByRecursion (Fits) vs → Below 8 (nums vs)
unfolding nums
enums-below [] h f = tt
enums-below (v ∷ vs) h f = (enum-below v h.0 f.0, enums-below vs h.1 f.1)

strs : List Value → List (List ℕ)
strs vs = each str (each cell vs)

strs-length : (vs : List Value) → length (strs vs) ≡ length vs
unfolding strs
strs-length [] = refl
strs-length (v ∷ vs) = ap suc (strs-length vs)

strs-lengths : (vs : List Value) → AllByRecursion (λ v. kind v ≡ TEXT) vs → each length (strs vs) ≡ nums vs
unfolding strs nums
strs-lengths [] h = refl
strs-lengths (v ∷ vs) h = ap₂ {C = List ℕ} ◌∷◌ (str-length v h.0) (strs-lengths vs h.1)

strs-fine : (vs : List Value) → AllByRecursion (λ v. kind v ≡ TEXT) vs → AllByRecursion (Fits) vs → all_pass (strs vs) ≡ true
unfolding strs
strs-fine [] h f = refl
strs-fine (v ∷ vs) h f = and_from _ _ (str-fine v h.0 f.0) (strs-fine vs h.1 f.1)

as-texts : (vs : List Value) → AllByRecursion (λ v. kind v ≡ TEXT) vs → each letters (strs vs) ≡ each cell vs
unfolding strs
as-texts [] h = refl
as-texts (v ∷ vs) h = ap₂ {C = List Cell} ◌∷◌ (as-letters v h.0) (as-texts vs h.1)

as-tuples : (n : ℕ) (vs : List Value) → AllByRecursion (λ v. kind v ≡ TUPLE n) vs → replicate (length vs) (number n) ≡ each cell vs
as-tuples n [] h = refl
as-tuples n (v ∷ vs) h = ap₂ {C = List Cell} ◌∷◌ (sym (as-tuple n v h.0)) (as-tuples n vs h.1)

as-units : (vs : List Value) → AllByRecursion (λ v. kind v ≡ UNIT) vs → replicate (length vs) (number 0) ≡ each cell vs
as-units [] h = refl
as-units (v ∷ vs) h = ap₂ {C = List Cell} ◌∷◌ (sym (as-unit v h.0)) (as-units vs h.1)

-- the slots that they take
plain_kind : Kind → Bool
plain_kind (SCALAR k) = true
plain_kind TEXT = false
plain_kind SEQ = false
plain_kind MAP = false
plain_kind ENUM = true
plain_kind UNIT = false
plain_kind (TUPLE n) = false

one_cell : (K : Kind) → plain_kind K ≡ true → (v : Value) → kind v ≡ K → cells v ≡ 1
unfolding plain_kind
one_cell K f (scalar k b) e = refl
one_cell K f (text bs) e = cc (ap plain_kind e)
one_cell K f unit e = cc (ap plain_kind e)
one_cell K f none e = refl
one_cell K f some e = refl
one_cell K f (variant i) e = refl
one_cell K f (seq n) e = cc (ap plain_kind e)
one_cell K f (map n) e = cc (ap plain_kind e)
one_cell K f (tuple n) e = cc (ap plain_kind e)

plain_cells : (K : Kind) → plain_kind K ≡ true → (vs : List Value) → AllByRecursion (λ v. kind v ≡ K) vs → total cells vs ≡ length vs
plain_cells K f [] h = refl
plain_cells K f (v ∷ vs) h = omega (arith, one_cell K f v h.0, plain_cells K f vs h.1)

length-cell : (K : Kind) → has_length K ≡ true → (v : Value) → kind v ≡ K → cells v ≡ length_cells (num (cell v))
unfolding has_length
length-cell K f (scalar k b) e = cc (ap has_length e)
length-cell K f (text bs) e = refl
length-cell K f unit e = cc (ap has_length e)
length-cell K f none e = refl
length-cell K f some e = refl
length-cell K f (variant i) e = cc (ap has_length e)
length-cell K f (seq n) e = refl
length-cell K f (map n) e = refl
length-cell K f (tuple n) e = cc (ap has_length e)

longs-length : (n : ℕ) (ns : List ℕ) → suc (length ns) + length (longs (n ∷ ns)) ≡ length_cells n + (length ns + length (longs ns))
longs-length n ns = grind (arith, nat_tests)

length-cells : (K : Kind) → has_length K ≡ true → (vs : List Value) → AllByRecursion (λ v. kind v ≡ K) vs → length (nums vs) + length (longs (nums vs)) ≡ total cells vs
unfolding nums
length-cells K f [] h = refl
length-cells K f (v ∷ vs) h = omega (arith, length-cell K f v h.0, length-cells K f vs h.1, longs-length (num (cell v)) (nums vs))

no_cells : (K : Kind) → ((v : Value) → kind v ≡ K → cells v ≡ 0) → (vs : List Value) → AllByRecursion (λ v. kind v ≡ K) vs → total cells vs ≡ 0
no_cells K f [] h = refl
no_cells K f (v ∷ vs) h = omega (arith, f v h.0, no_cells K f vs h.1)

unit-cell : (v : Value) → kind v ≡ UNIT → cells v ≡ 0
unit-cell (scalar k b) e = cc
unit-cell (text bs) e = cc
unit-cell unit e = refl
unit-cell none e = cc
unit-cell some e = cc
unit-cell (variant i) e = cc
unit-cell (seq n) e = cc
unit-cell (map n) e = cc
unit-cell (tuple n) e = refl

tuple-cell : (m : ℕ) (v : Value) → kind v ≡ TUPLE m → cells v ≡ 0
tuple-cell m (scalar k b) e = cc
tuple-cell m (text bs) e = cc
tuple-cell m unit e = refl
tuple-cell m none e = cc
tuple-cell m some e = cc
tuple-cell m (variant i) e = cc
tuple-cell m (seq n) e = cc
tuple-cell m (map n) e = cc
tuple-cell m (tuple n) e = refl

-- numbers and lengths of values, as cells
values-back : (col : Meaning) (law : Lawful col) (column w : ℕ) (K : Kind) (vs : List Value) (bs : List ℕ) (k : ℕ) → is_text K ≡ false → plain_kind K ≡ true → listed w ≡ true
    → AllByRecursion (λ v. kind v ≡ K) vs → Below w (nums vs) → total cells vs ≤ k
    → and_then (numbers col column w (length vs) (supply k (col.image w (nums vs) ++ bs))) as_numbers ≡ fetched (each cell vs) (supply (k - total cells vs) bs)
values-back col law column w K vs bs k f p l h b room =
    let c : total cells vs ≡ length (nums vs) = plain_cells K p vs h ∙ sym (nums-length vs) in
    let e : numbers col column w (length vs) (supply k (col.image w (nums vs) ++ bs)) ≡ fetched (nums vs) (supply (k - total cells vs) bs) =
    rw (← (nums-length vs), c) (numbers-back col law column w (nums vs) bs k l b (omega arith)) in
    ap (λ x. and_then x as_numbers) e ∙ ap (λ cs. fetched cs (supply (k - total cells vs) bs)) (as-numbers K f vs h)

counts-back : (col : Meaning) (law : Lawful col) (column : ℕ) (K : Kind) (vs : List Value) (bs : List ℕ) (k : ℕ) → is_text K ≡ false → has_length K ≡ true → AllByRecursion (λ v. kind v ≡ K) vs
    → total extent vs < limit → total cells vs ≤ k
    → and_then (lengths col column (length vs) (supply k (length_bytes col (nums vs) ++ bs))) as_numbers ≡ fetched (each cell vs) (supply (k - total cells vs) bs)
counts-back col law column K vs bs k f l h b room =
    let c : length (nums vs) + length (longs (nums vs)) ≡ total cells vs = length-cells K l vs h in
    let e : lengths col column (length vs) (supply k (length_bytes col (nums vs) ++ bs)) ≡ fetched (nums vs) (supply (k - total cells vs) bs) =
    rw (← (nums-length vs), ← c) (lengths-back col law column (nums vs) bs k (rw (as-extents K l vs h) b) (omega arith)) in
    ap (λ x. and_then x as_numbers) e ∙ ap (λ cs. fetched cs (supply (k - total cells vs) bs)) (as-numbers K f vs h)

words_back : (col : Meaning) (law : Lawful col) (column : ℕ) (vs : List Value) (bs : List ℕ) (k : ℕ) → AllByRecursion (λ v. kind v ≡ TEXT) vs → AllByRecursion (Fits) vs → total extent vs < limit → total cells vs ≤ k
    → and_then (texts col column (length vs) (supply k ((length_bytes col (nums vs) ++ joined (strs vs)) ++ bs))) as_letters ≡ fetched (each cell vs) (supply (k - total cells vs) bs)
unfolding has_length
words_back col law column vs bs k h f b room =
    let c : length (nums vs) + length (longs (nums vs)) ≡ total cells vs = length-cells TEXT refl vs h in
    let e : texts col column (length vs) (supply k ((length_bytes col (nums vs) ++ joined (strs vs)) ++ bs)) ≡ fetched (strs vs) (supply (k - total cells vs) bs) =
    rw (← c, ← (strs-length vs), ← (strs-lengths vs h))
    (texts-back col law column (strs vs) bs k (rw (strs-lengths vs h, as-extents TEXT refl vs h) b) (strs-fine vs h f) (rw (strs-lengths vs h, c) room)) in
    ap (λ x. and_then x as_letters) e ∙ ap (λ cs. fetched cs (supply (k - total cells vs) bs)) (as-texts vs h)

-- what a node's columns hold is read back, whatever follows them
pub fetch-back : (col : Meaning) (law : Lawful col) (column : ℕ) (K : Kind) (vs : List Value) (bs : List ℕ) (k : ℕ) → AllByRecursion (λ v. kind v ≡ K) vs → AllByRecursion (Fits) vs → total extent vs < limit → total cells vs ≤ k
    → fetch col column K (length vs) (supply k (columns col K (each cell vs) ++ bs)) ≡ fetched (each cell vs) (supply (k - total cells vs) bs)
unfolding fetch columns is_text has_length plain_kind nums strs
fetch-back col law column (SCALAR j) vs bs k h f b r = values-back col law column (width j) (SCALAR j) vs bs k refl refl (width-listed j) h (scalars-below j vs h f) r
fetch-back col law column TEXT vs bs k h f b r = words_back col law column vs bs k h f b r
fetch-back col law column SEQ vs bs k h f b r = counts-back col law column SEQ vs bs k refl refl h b r
fetch-back col law column MAP vs bs k h f b r = counts-back col law column MAP vs bs k refl refl h b r
fetch-back col law column ENUM vs bs k h f b r = values-back col law column 8 ENUM vs bs k refl refl refl h (enums-below vs h f) r
fetch-back col law column UNIT vs bs k h f b r =
    ap₂ (λ cs n. fetched cs (supply n bs)) (as-units vs h) (omega (arith, no_cells UNIT unit-cell vs h))
fetch-back col law column (TUPLE m) vs bs k h f b r =
    ap₂ (λ cs n. fetched cs (supply n bs)) (as-tuples m vs h) (omega (arith, no_cells (TUPLE m) (tuple-cell m) vs h))
