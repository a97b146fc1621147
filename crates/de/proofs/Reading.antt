-- What reading a column of numbers comes to.
use Rattle.std.proofs.Common.{◌≡◌, ℕ, ◌+◌, ◌-◌, ◌<◌, ◌≤◌, leb, List, length, get_or, take, drop, OnOk, Ok, Err, Result, refl, sym, ap, ap₂, ◌∙◌, subst, arith, length-drop, length-take}
use Rattle.std.proofs.ByRecursion.{All-drop, All-from_get_or}
use Rattle.std.proofs.lemmas.List.{drop-drop}
use Rattle.std.proofs.lemmas.Bool.{cond-true, le-leb}
use Rattle.std.proofs.lemmas.Slice.{between-put_mid}
use borrow.Rule.Slice.PartMut.{put_mid}
use Rattle.column.specs.declared.fault.Fault.{Fault}
use Rattle.column.specs.Parsed.{Parsed, got, short, bad, told, values_of}
use Rattle.column.specs.Meaning.{Meaning, Yields, Lawful}
use Rattle.column.specs.Interface.{reading}
use Rattle.document.specs.Fetch.{supply, fetched, from, numbers}
use Rattle.de.specs.declared.columns.Spot.{Spot}
use Rattle.de.specs.Columns.{Within, left_at, Reads, NumbersStored, numbered}

-- a column that was read gave these values, from bytes that there are
read_of : (w n : ℕ) (bytes : List ℕ) (column size : ℕ) (values : List ℕ) (p : Parsed (List ℕ)) → Yields w n bytes p → (r : Result ℕ Fault) → Ok size ≡ numbered column r → r ≡ told 0 p → OnOk r (values ≡ values_of p)
    → (p ≡ got values size) × (size ≤ length bytes)
read_of w n bytes column size values (got vs used) y (Ok k) e a v =
    let s : size ≡ k = cc in
    let u : k ≡ used = cc in
    (ap₂ got (sym v) (sym u ∙ sym s), omega (arith, y.2))
read_of w n bytes column size values (short depth) y (Ok k) e a v = cc
read_of w n bytes column size values (bad depth) y (Ok k) e a v = cc
read_of w n bytes column size values p y (Err f) e a v = cc

-- the answers of a column's read into the n slots from a spot on, and with its number: so many bytes
module _ (col : Meaning) (law : Lawful col) (column w n room : ℕ) (input slots values : List ℕ) (spot : Spot) (size : ℕ) (r : Result ℕ Fault)
    (small : (i : ℕ) → get_or input i 0 < 256) (within : Within room input spot) (few : n ≤ room - spot.taken) (most : room ≤ length slots) (ok : Ok size ≡ numbered column r)
    (answer : r ≡ told 0 (reading col w (length (take (spot.taken + n - spot.taken) (drop spot.taken slots))) input spot.place))
    (read : OnOk r (values ≡ values_of (reading col w (length (take (spot.taken + n - spot.taken) (drop spot.taken slots))) input spot.place)))
    (long : length values ≡ length (take (spot.taken + n - spot.taken) (drop spot.taken slots))) where
  -- the part has n slots
  part : length (take (spot.taken + n - spot.taken) (drop spot.taken slots)) ≡ n
  part = simp (length-take, length-drop) (omega (arith, within.taken))

  -- the kind reads these values
  parsed : (col.parse w n (drop spot.place input) ≡ got values size) × (size ≤ length (drop spot.place input))
  parsed =
      let bytes = All-drop (λ b. b < 256) spot.place input (All-from_get_or (λ b. b < 256) input 0 (λ i _. small i)) in
      let here : reading col w (length (take (spot.taken + n - spot.taken) (drop spot.taken slots))) input spot.place ≡ col.parse w n (drop spot.place input) =
      cond-true (leb spot.place (length input)) _ _ (le-leb spot.place (length input) within.place) ∙ ap (λ k. col.parse w k (drop spot.place input)) part in
      read_of w n (drop spot.place input) column size values (col.parse w n (drop spot.place input)) (law.yields w n (drop spot.place input) bytes) r ok (answer ∙ ap (told 0) here)
      (subst (λ (p : Parsed (List ℕ)). OnOk r (values ≡ values_of p)) here read)

  -- from bytes of the input
  pub read_within : spot.place + size ≤ length input
  read_within = omega (arith, parsed.1, length-drop spot.place input, within.place)

  -- and so does the definition
  pub numbers_read : Reads room input spot (record { taken = spot.taken + n; place = spot.place + size }) (numbers col column w n (left_at room input spot))
      (NumbersStored n (put_mid spot.taken (spot.taken + n - spot.taken) slots values) spot (record { spot = record { taken = spot.taken + n; place = spot.place + size }; text = spot.place + size; sum = 0 }))
  numbers_read =
      let k : ℕ = spot.taken + n - spot.taken in
      let all : List ℕ = put_mid spot.taken k slots values in
      let size_of : k ≡ n = omega arith in
      record {
        what = values;
        is = cond-true (leb n (room - spot.taken)) _ _ (le-leb n (room - spot.taken) few) ∙ ap (from column n (left_at room input spot)) parsed.0 ∙ ap₂ (λ s bs. fetched values (supply s bs)) (omega arith) (drop-drop size spot.place input);
        within = record { taken = omega (arith, within.taken); place = read_within };
        taken = omega arith;
        place = omega arith;
        holds = (
          record {
            count = long ∙ part;
            taken = omega arith;
            stand = sym (ap (λ j. take j (drop spot.taken all)) size_of) ∙ between-put_mid spot.taken k slots values (spot.taken + n) (omega (arith, within.taken)) (long ∙ part ∙ sym size_of);
          },
          refl,
          refl,
          refl,
        );
      }
