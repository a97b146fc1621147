-- What reading a node's two columns of lengths comes to.
use Rattle.std.proofs.Common.{◌≡◌, ℕ, suc, ◌+◌, ◌-◌, ◌^◌, ◌<◌, ◌≤◌, ltb, List, [], ◌∷◌, min, length, take, drop, refl, sym, ap, ap₂, ◌∙◌, arith, length-drop, length-take}
use Rattle.std.proofs.lemmas.List.{take-take, drop-take, drop-drop}
use Rattle.std.proofs.lemmas.Bool.{cond-true, cond-false, cond_both, lt-ltb, le-ltb}
use Rattle.std.proofs.lemmas.Slice.{between_is, between-put_mid}
use borrow.Rule.Slice.PartMut.{put_mid}
use Rattle.column.specs.Meaning.{Meaning}
use Rattle.document.specs.declared.refusals.Refusal.{Refusal}
use Rattle.document.specs.declared.refusals.Refusal.TheVariants as refusals
use Rattle.document.specs.Columns.{sum, limit}
use Rattle.document.specs.Fetch.{Supply, Fetched, denied, and_then, numbers, beyond, merged, limited, lengths}
use Rattle.de.specs.declared.columns.Spot.{Spot}
use Rattle.de.specs.declared.columns.Gain.{Gain}
use Rattle.de.specs.Columns.{usable, left_at, Reads, NumbersStored, LengthsStored}

-- merged lengths are as many as the first column has
length-merged : (ss ls : List ℕ) → length (merged ss ls) ≡ length ss
length-merged [] ls = refl
length-merged (s ∷ ss) ls = cond_both (ltb s 255) _ _ (λ ns. length ns ≡ suc (length ss)) (λ _. ap suc (length-merged ss ls)) (λ _. ap suc (length-merged ss (drop 1 ls)))

-- slots that two reads kept, one after the other
pub kept_both : (a b : ℕ) (old one two : List ℕ) → a ≤ b → take a one ≡ take a old → take b two ≡ take b one → take a two ≡ take a old
kept_both a b old one two h p q = sym (take-take a b two h) ∙ ap (take a) q ∙ take-take a b one h ∙ p

-- the first column was read, which asks for so many of the second
module _ (col : Meaning) (column n long : ℕ) (input old one : List ℕ) (spot : Spot) (first : Gain) (same-one : length one ≡ length old)
    (shorts : Reads (usable (length old)) input spot first.spot (numbers col column 8 n (left_at (usable (length old)) input spot)) (NumbersStored n one spot first))
    (count : long ≡ beyond (take (first.spot.taken - spot.taken) (drop spot.taken one))) where
  -- as many as the definition asks for
  asked : long ≡ beyond shorts.what
  asked =
      let size : first.spot.taken - spot.taken ≡ n = omega (arith, shorts.holds.1) in
      count ∙ ap (λ k. beyond (take k (drop spot.taken one))) size ∙ ap beyond shorts.holds.0.stand

  -- whatever reading the second comes to
  lengths-by : (F : Fetched (List ℕ)) → numbers col (column + 1) 64 long (left_at (usable (length one)) input first.spot) ≡ F → lengths col column n (left_at (usable (length old)) input spot) ≡ and_then F (λ ls r. limited (merged shorts.what ls) r)
  lengths-by F e =
      let next : List ℕ → Supply → Fetched (List ℕ) = λ ss u. and_then (numbers col (suc column) 64 (beyond ss) u) (λ ls r. limited (merged ss ls) r) in
      let there : numbers col (suc column) 64 (beyond shorts.what) (left_at (usable (length old)) input first.spot) ≡ F =
      ap₂ (λ j k. numbers col j 64 k (left_at (usable (length old)) input first.spot)) (omega arith) (sym asked)
      ∙ ap (λ k. numbers col (column + 1) 64 long (left_at k input first.spot)) (ap usable (sym same-one)) ∙ e in
      ap (λ (m : Fetched (List ℕ)). and_then m next) shorts.is ∙ ap (λ (m : Fetched (List ℕ)). and_then m (λ ls r. limited (merged shorts.what ls) r)) there

  -- the second is refused
  pub lengths_denied : (e : Refusal) → numbers col (column + 1) 64 long (left_at (usable (length one)) input first.spot) ≡ denied e → lengths col column n (left_at (usable (length old)) input spot) ≡ denied e
  lengths_denied e refused = lengths-by (denied e) refused

-- both columns were read
module _ (col : Meaning) (column n long : ℕ) (input old one : List ℕ) (spot : Spot) (first : Gain) (same-one : length one ≡ length old)
    (shorts : Reads (usable (length old)) input spot first.spot (numbers col column 8 n (left_at (usable (length old)) input spot)) (NumbersStored n one spot first))
    (count : long ≡ beyond (take (first.spot.taken - spot.taken) (drop spot.taken one))) (two : List ℕ) (second : Gain) (same-two : length two ≡ length one)
    (longs : Reads (usable (length one)) input first.spot second.spot (numbers col (column + 1) 64 long (left_at (usable (length one)) input first.spot)) (NumbersStored long two first.spot second))
    (kept : take first.spot.taken two ≡ take first.spot.taken one) where
  -- how far they go
  ends : (first.spot.taken ≡ spot.taken + n) × (second.spot.taken ≡ first.spot.taken + long) × (second.spot.taken ≤ length two)
  ends = (shorts.holds.1, longs.holds.1, omega (arith, longs.within.taken))

  -- the slots of both, as the code takes them
  abbrev part : List ℕ
  part = take (second.spot.taken - spot.taken) (drop spot.taken two)

  -- the first column's numbers stand in front
  front : take (first.spot.taken - spot.taken) part ≡ shorts.what
  front =
      take-take (first.spot.taken - spot.taken) (second.spot.taken - spot.taken) (drop spot.taken two) (omega (arith, ends))
      ∙ between_is two spot.taken first.spot.taken ∙ ap (drop spot.taken) kept ∙ sym (between_is one spot.taken first.spot.taken)
      ∙ ap (λ k. take k (drop spot.taken one)) (omega (arith, ends)) ∙ shorts.holds.0.stand

  -- the second's behind them
  back : drop (first.spot.taken - spot.taken) part ≡ longs.what
  back =
      let before : spot.taken + (first.spot.taken - spot.taken) ≡ first.spot.taken = omega (arith, ends) in
      ap (λ k. drop (first.spot.taken - spot.taken) (take k (drop spot.taken two))) (omega (arith, ends)) ∙ drop-take (first.spot.taken - spot.taken) long (drop spot.taken two)
      ∙ ap (take long) (drop-drop (first.spot.taken - spot.taken) spot.taken two ∙ ap (λ k. drop k two) before) ∙ longs.holds.0.stand

  -- they are in the part
  pub room : first.spot.taken - spot.taken + beyond (take (first.spot.taken - spot.taken) part) ≤ length part
  room =
      let size : length part ≡ second.spot.taken - spot.taken = simp (length-take, length-drop) (omega (arith, ends)) in
      omega (arith, ends, size, ap beyond front, asked col column n long input old one spot first same-one shorts count)

  -- the definition reads them, and merges them
  lengths-are : lengths col column n (left_at (usable (length old)) input spot) ≡ limited (merged shorts.what longs.what) (left_at (usable (length old)) input second.spot)
  lengths-are =
      lengths-by col column n long input old one spot first same-one shorts count _ longs.is
      ∙ ap (λ k. limited (merged shorts.what longs.what) (left_at k input second.spot)) (ap usable same-one)

  -- the part was merged in its place, and this is the sum of the lengths
  module _ (new : List ℕ) (total : ℕ) (long-as : length new ≡ length part) (mixed : take (first.spot.taken - spot.taken) new ≡ merged (take (first.spot.taken - spot.taken) part) (drop (first.spot.taken - spot.taken) part))
      (summed : total ≡ min (sum (take (first.spot.taken - spot.taken) new)) (2 ^ 64 - 1)) where
    -- the lengths are the definition's
    are : take (first.spot.taken - spot.taken) new ≡ merged shorts.what longs.what
    are = mixed ∙ ap₂ merged front back

    -- a sum that is too large is so for the definition
    pub lengths_past : limit ≤ total → lengths col column n (left_at (usable (length old)) input spot) ≡ denied refusals.Sum
    lengths_past h = lengths-are ∙ cond-false (ltb (sum (merged shorts.what longs.what)) limit) _ _ (le-ltb _ limit (omega (arith, summed, ap sum are)))

    -- any other is exact, and the lengths stand in the first slots
    pub lengths_read : total < limit
        → Reads (usable (length old)) input spot second.spot (lengths col column n (left_at (usable (length old)) input spot)) (LengthsStored n (put_mid spot.taken (second.spot.taken - spot.taken) two new) spot (record second { sum = total }))
    lengths_read h =
        let all : List ℕ = put_mid spot.taken (second.spot.taken - spot.taken) two new in
        let exact : total ≡ sum (merged shorts.what longs.what) = omega (arith, summed, ap sum are) in
        let size : second.spot.taken - spot.taken ≡ length part = simp (length-take, length-drop) (omega (arith, ends)) in
        record {
          what = merged shorts.what longs.what;
          is = lengths-are ∙ cond-true (ltb (sum (merged shorts.what longs.what)) limit) _ _ (lt-ltb _ limit (omega (arith, exact)));
          within = record { taken = omega (arith, longs.within.taken); place = longs.within.place };
          taken = omega (arith, ends);
          place = omega (arith, shorts.place, longs.place);
          holds = (
            record {
              count = length-merged shorts.what longs.what ∙ shorts.holds.0.count;
              taken = omega (arith, ends);
              stand = sym (take-take n (second.spot.taken - spot.taken) (drop spot.taken all) (omega (arith, ends)))
                  ∙ ap (take n) (between-put_mid spot.taken (second.spot.taken - spot.taken) two new second.spot.taken (omega (arith, ends)) (long-as ∙ sym size))
                  ∙ ap (λ k. take k new) (omega (arith, ends)) ∙ are;
            },
            exact,
            longs.holds.3,
          );
        }
