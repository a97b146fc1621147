-- The columns of a node that were read just now: what stands in the slots is what the definitions read.
use Rattle.std.proofs.Common.{◌≡◌, ℕ, zero, suc, ◌+◌, ◌^◌, ◌<◌, ◌≤◌, Bool, true, false, cond, leb, List, [], ◌∷◌, map as each, length, min, take, drop, sym, refl, ap, ◌∙◌, subst, ⊎_elim, add-zero, arith, length-drop}
use Rattle.std.specs.List.{AllByRecursion}
use Rattle.column.specs.Meaning.{Meaning, Lawful, Yields}
use Rattle.column.specs.Parsed.{Parsed, got, short, bad}
use Rattle.column.specs.Widths.{Below, Bytes}
use Rattle.document.specs.declared.refusals.Refusal.TheVariants as refusals
use Rattle.document.specs.Calls.{width, total, Kind, SCALAR, TEXT, SEQ, MAP, ENUM, UNIT, TUPLE, Cell, number, num, str}
use Rattle.document.specs.Fetch.{Supply, supply, fetched, denied, and_then, from, as_numbers, fetch, columns_of}
use Rattle.document.specs.declared.scalars.Scalar.{Scalar}
use Rattle.document.specs.Nodes.{Path}
use Rattle.document.specs.Reader.{Store, letter_count}
use Rattle.nodes.specs.Marks.{mark_of, family_of}
use Rattle.de.specs.declared.records.Node.{Node as Row}
use Rattle.de.specs.declared.columns.Gain.{Gain}
use Rattle.de.specs.Columns.{left_at, usable, lengths_of, Stored}
use Rattle.de.specs.Moves.{Sheets, advanced}
use Rattle.de.specs.Reads.{Lies, Values, Reads}
use Rattle.de.specs.Viewed.{View, spot_of, found, Finds}
use Rattle.de.proofs.FirstTaking.{Came, first_text}
use Rattle.de.proofs.Seeing.{reslotted}

-- ---- what is read fits its width

-- numbers that fit fit as cells
each_fits : (w : ℕ) (vs : List ℕ) → Below w vs → AllByRecursion (λ c. num c < 2 ^ w) (each number vs)
each_fits w [] h = tt
each_fits w (v ∷ vs) h = (h.0, each_fits w vs h.1)

-- the numbers of one column
column_fits : (column w n : ℕ) (u : Supply) (P : Parsed (List ℕ)) → Yields w n u.input P → (b : Bool) (cs : List Cell) (t : Supply) → and_then (cond b (from column n u P) (denied refusals.Cells)) as_numbers ≡ fetched cs t → AllByRecursion (λ c. num c < 2 ^ w) cs
column_fits column w n u (got vs used) y true cs t e = let is : each number vs ≡ cs = cc in subst (AllByRecursion (λ c. num c < 2 ^ w)) is (each_fits w vs y.1)
column_fits column w n u (got vs used) y false cs t e = cc
column_fits column w n u (short d) y true cs t e = cc
column_fits column w n u (short d) y false cs t e = cc
column_fits column w n u (bad d) y true cs t e = cc
column_fits column w n u (bad d) y false cs t e = cc

-- of a node of scalars
scalar_fits : (col : Meaning) → Lawful col → (column : ℕ) (k : Scalar) (n : ℕ) (u : Supply) → Bytes u.input → (cs : List Cell) (t : Supply) → fetch col column (SCALAR k) n u ≡ fetched cs t → AllByRecursion (λ c. num c < 2 ^ width k) cs
unfolding fetch
scalar_fits col law column k n u b cs t e = column_fits column (width k) n u (col.parse (width k) n u.input) (law.yields (width k) n u.input b) (leb n u.slots) cs t e

-- of an ENUM node
enum_fits : (col : Meaning) → Lawful col → (column n : ℕ) (u : Supply) → Bytes u.input → (cs : List Cell) (t : Supply) → fetch col column ENUM n u ≡ fetched cs t → AllByRecursion (λ c. num c < 2 ^ 8) cs
unfolding fetch
enum_fits col law column n u b cs t e = column_fits column 8 n u (col.parse 8 n u.input) (law.yields 8 n u.input b) (leb n u.slots) cs t e

-- bytes from a place on are bytes
bytes_drop : (k : ℕ) (bs : List ℕ) → Bytes bs → Bytes (drop k bs)
bytes_drop zero bs h = h
bytes_drop (suc k) [] h = tt
bytes_drop (suc k) (b ∷ bs) h = bytes_drop k bs h.1

-- texts are as long together as their lengths say
total_letters : (cs : List Cell) → AllByRecursion (λ c. num c ≡ length (str c)) cs → total num cs ≡ total letter_count cs
total_letters [] h = refl
total_letters (c ∷ cs) h = omega (arith, h.0, total_letters cs h.1)

-- ---- the tables

module _ (col : Meaning) (law : Lawful col) (input : List ℕ) (bytes : Bytes input) (T : Sheets) (slots : List ℕ) (size : length slots ≡ length T.slots) (ps : List Path) (S : Store) (h : Reads T ps input S) (x : Row) (K : Kind) (n : ℕ) (cs : List Cell) (u : Supply) (v : View) (room : T.used + family_of (mark_of K) ≤ min (length T.nodes) 65536) (read : fetch col S.columns K n (supply S.slots S.input) ≡ fetched cs u) (finds : Finds input T slots K x cs u v) where
  -- how far reading came, the tables and the record then
  abbrev g : Gain
  g = finds.gain

  abbrev A : Sheets
  A = advanced g.spot.taken g.spot.place 0 (reslotted slots T)

  abbrev y : Row
  y = (found T (mark_of K) x g).node

  -- what stands in the slots is what is left
  lies : Stored x.count slots (spot_of T) g.spot (each num cs) → Lies A y cs
  lies s = record {
    within = s.taken;
    left = sym s.stand ∙ ap (λ k. take k (drop T.taken slots)) (sym finds.stored.count) ∙ ap (λ k. take (length cs) (drop k slots)) (sym (add-zero T.taken));
  }

  -- an equal kind has columns too
  some : (J : Kind) → J ≡ K → 0 < columns_of J → 0 < columns_of K
  some J e l = subst (λ I. 0 < columns_of I) e l

  -- what is left of the input
  rest : Bytes (supply S.slots S.input).input
  rest = subst Bytes (sym h.rest) (bytes_drop T.place input bytes)

  -- where a TEXT node's first text stands
  text_at : K ≡ TEXT → y.text ≡ first_text S u cs
  text_at e =
      let sum : g.sum ≡ total num cs = finds.stored.sum-is ∙ ap (λ J. lengths_of J cs) e in
      omega (arith, sum, total_letters cs (finds.stored.letters e), h.place, ap length h.rest, length-drop T.place input, ap (λ (w : Supply). length w.input) finds.left, length-drop g.spot.place input, finds.stored.text e, finds.place, finds.within.place)

  -- the values, by the kind
  values : (J : Kind) → J ≡ K → Values A (first_text S u cs) y J cs
  values (SCALAR k) e = (lies (finds.stored.stored (some (SCALAR k) e (omega arith))), scalar_fits col law S.columns k n (supply S.slots S.input) rest cs u (ap (λ J. fetch col S.columns J n (supply S.slots S.input)) e ∙ read))
  values TEXT e =
      let sum : g.sum ≡ total num cs = finds.stored.sum-is ∙ ap (λ J. lengths_of J cs) (sym e) in
      (lies (finds.stored.stored (some TEXT e (omega arith))), text_at (sym e), omega (arith, finds.stored.text (sym e), sum), finds.stored.letters (sym e))
  values SEQ e = lies (finds.stored.stored (some SEQ e (omega arith)))
  values MAP e = lies (finds.stored.stored (some MAP e (omega arith)))
  values ENUM e = (lies (finds.stored.stored (some ENUM e (omega arith))), enum_fits col law S.columns n (supply S.slots S.input) rest cs u (ap (λ J. fetch col S.columns J n (supply S.slots S.input)) e ∙ read))
  values UNIT e = tt
  values (TUPLE m) e = tt

  -- what was read came as the definitions have it
  pub comes_in : (g : Gain) × (v ≡ found T (mark_of K) x g) × Came (reslotted slots T) input S x K cs u g
  comes_in = (
    g,
    finds.is,
    record {
      room = room;
      taken = finds.taken;
      usable = omega (arith, finds.within.taken, size);
      from = finds.place;
      within = finds.within.place;
      left = finds.left ∙ ap (λ k. left_at (usable k) input g.spot) (sym size);
      count = finds.stored.count;
      values = values K refl;
      sum = λ e. finds.stored.sum-is ∙ ⊎_elim (λ q. ap (λ J. lengths_of J cs) q) (λ q. ap (λ J. lengths_of J cs) q) e;
    },
  )
