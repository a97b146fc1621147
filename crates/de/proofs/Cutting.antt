-- What reading a node's texts comes to.
use Rattle.std.proofs.Common.{◌≡◌, ℕ, ◌+◌, ◌-◌, ◌≤◌, true, leb, List, [], ◌∷◌, map as each, length, take, drop, refl, sym, ap, ap₂, ◌∙◌, arith, length-drop}
use Rattle.std.proofs.lemmas.List.{take_rest, drop-drop, length-take-le}
use Rattle.std.proofs.lemmas.Bool.{cond-true, le-leb}
use Rattle.column.specs.Meaning.{Meaning}
use Rattle.document.specs.Columns.{sum}
use Rattle.document.specs.Fetch.{Supply, supply, Fetched, fetched, and_then, lengths, cut, all_pass, parted, texts}
use Rattle.de.specs.declared.columns.Spot.{Spot}
use Rattle.de.specs.declared.columns.Gain.{Gain}
use Rattle.de.specs.Columns.{left_at, Reads, LengthsStored, TextsStored}

-- texts that are cut from enough bytes have these lengths
lengths-cut : (ns bs : List ℕ) → sum ns ≤ length bs → each length (cut ns bs) ≡ ns
lengths-cut [] bs h = refl
lengths-cut (n ∷ ns) bs h = ap₂ ◌∷◌ (length-take-le n bs (omega arith)) (lengths-cut ns (drop n bs) (omega (arith, length-drop n bs)))

-- a node's lengths were read, there are bytes for them all, and the texts pass
pub texts_read : (col : Meaning) (column n room : ℕ) (input slots : List ℕ) (spot : Spot) (gain : Gain)
    → Reads room input spot gain.spot (lengths col column n (left_at room input spot)) (LengthsStored n slots spot gain) → gain.sum ≤ length input - gain.spot.place
    → all_pass (cut (take (spot.taken + n - spot.taken) (drop spot.taken slots)) (take (length input - gain.spot.place) (drop gain.spot.place input))) ≡ true
    → Reads room input spot (record gain.spot { place = gain.spot.place + gain.sum }) (texts col column n (left_at room input spot))
    (TextsStored n slots spot (record gain { spot = record gain.spot { place = gain.spot.place + gain.sum } }))
texts_read col column n room input slots spot gain r h pass =
    let bs : List ℕ = drop gain.spot.place input in
    let all : sum r.what ≤ length bs = omega (arith, r.holds.1, length-drop gain.spot.place input) in
    let same : each length (cut r.what bs) ≡ r.what = lengths-cut r.what bs all in
    let stand : take (spot.taken + n - spot.taken) (drop spot.taken slots) ≡ r.what = ap (λ k. take k (drop spot.taken slots)) (omega arith) ∙ r.holds.0.stand in
    let passes : all_pass (cut r.what bs) ≡ true = sym (ap₂ (λ ns ts. all_pass (cut ns ts)) stand (take_rest input gain.spot.place)) ∙ pass in
    let left : Supply = supply (room - gain.spot.taken) (drop (sum r.what) bs) in
    let after : drop (sum r.what) bs ≡ drop (gain.spot.place + gain.sum) input = drop-drop (sum r.what) gain.spot.place input ∙ ap (λ k. drop (gain.spot.place + k) input) (sym r.holds.1) in
    record {
      what = cut r.what bs;
      is = ap (λ (m : Fetched (List ℕ)). and_then m (parted column)) r.is ∙ cond-true (leb (sum r.what) (length bs)) _ _ (le-leb (sum r.what) (length bs) all)
          ∙ cond-true (all_pass (cut r.what bs)) (fetched (cut r.what bs) left) _ passes ∙ ap (λ ts. fetched (cut r.what bs) (supply (room - gain.spot.taken) ts)) after;
      within = record { taken = r.within.taken; place = omega (arith, r.within.place) };
      taken = r.taken;
      place = omega (arith, r.place);
      holds = record {
        stored = record { count = ap length same ∙ r.holds.0.count; taken = r.holds.0.taken; stand = r.holds.0.stand ∙ sym same };
        sum-is = r.holds.1 ∙ ap sum (sym same);
        text = omega (arith, r.holds.2);
      };
    }
