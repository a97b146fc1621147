-- The short kind: a value's groups one by one, the loops over them, and what reading one value answers.
use Rattle.std.specs.Prelude.{◌≡◌, ℕ, zero, suc, ◌+◌, ◌/◌, ◌%◌, ◌^◌, ◌<◌, ◌≤◌, Bool, cond, List, [], ◌∷◌, ◌++◌, length, take, drop, Option, Some, None, Result, Ok, Err, nat_lt, position, slice_set, refl, ◌-◌, ◌*◌, true, ◌⊎◌, slice_index, slice_index_or}
use Rattle.std.specs.List.{position_from}
use Rattle.std.proofs.Common.{sym, ◌∙◌, ap, ap₂, inl, inr, add-zero, arith, pow_mono}
use Rattle.std.proofs.lemmas.List.{append_assoc, drop-drop, drop-set-lt, length-set, take_more_set, drop_more, drop_all, length-take, get_or-take}
use Rattle.std.proofs.lemmas.Iterator.Adapters.{position_from-zero}
use Rattle.std.proofs.lemmas.Bool.{lt-ltb, le-ltb, cases_lt}
use Rattle.column.specs.declared.fault.Cause.TheVariants.{Short, Bad}
use Rattle.column.specs.declared.fault.Fault.{Fault}
use Rattle.column.specs.Parsed.{Parsed, got, short, bad, fault, told}
use Rattle.column.specs.Coded.{onto, taken}
use Rattle.column.specs.Digits.{total}
use Rattle.column.specs.Short.{groups, leb128, front, short_one}
use Rattle.column.specs.Laws.Short.{groups-small, groups-more, form-some, leb-fewest, Fronted, fronted}
use Rattle.column.proofs.Overlaid.{overlaid-one}
use Rattle.column.proofs.OneByOne.{onto-onto}
use Rattle.column.specs.Widths.{listed}
use Rattle.column.specs.Laws.Listed.{width-most}

-- ---- a value's groups

-- more room for groups changes nothing once there is enough
groups-enough : (j k v : ℕ) → v < 128 ^ suc j → v < 128 ^ suc k → groups j v ≡ groups k v
groups-enough zero k v h l = sym (groups-small k v (omega arith))
groups-enough (suc j) zero v h l = groups-small (suc j) v (omega arith)
groups-enough (suc j) (suc k) v h l =
    elim (cases_lt v 128) [
      | inl s ↦ groups-small (suc j) v s ∙ sym (groups-small (suc k) v s)
      | inr m ↦ groups-more j v m ∙ ap (λ (gs : List ℕ). (v % 128 + 128) ∷ gs) (groups-enough j k (v / 128) (omega arith) (omega arith)) ∙ sym (groups-more k v m)
    ]

pub leb_small : (v : ℕ) → v < 128 → leb128 v ≡ v ∷ []
unfolding leb128
leb_small = groups-small 9

pub leb-more : (v : ℕ) → 128 ≤ v → v < 2 ^ 64 → leb128 v ≡ (v % 128 + 128) ∷ leb128 (v / 128)
unfolding leb128
leb-more v h b = groups-more 8 v h ∙ ap (λ (gs : List ℕ). (v % 128 + 128) ∷ gs) (groups-enough 8 9 (v / 128) (omega arith) (omega arith))

-- ---- writing: the groups below `rest` stand in front

abbrev pub Grouping : ℕ → List ℕ → ℕ → ℕ → List ℕ → Type 0
Grouping value old rest k out =
    (take k out ++ leb128 rest ≡ leb128 value) × (drop k out ≡ drop k old) × (k + length (leb128 rest) ≡ length (leb128 value)) × (length out ≡ length old) × (rest < 2 ^ 64)

-- one element further, the lists are still the same
drop-more : (k : ℕ) (xs ys : List ℕ) → drop k xs ≡ drop k ys → drop (k + 1) xs ≡ drop (k + 1) ys
drop-more k xs ys e = sym (drop-drop 1 k xs) ∙ ap (drop 1) e ∙ drop-drop 1 k ys

pub grouping-more : (value : ℕ) (old : List ℕ) (rest k : ℕ) (out : List ℕ) → 128 ≤ rest → k < length out → Grouping value old rest k out
    → Grouping value old (rest / 128) (k + 1) (slice_set out k (rest % 128 + 128))
grouping-more value old rest k out m h g =
    let more = leb-more rest m g.4 in (
      ap (λ (bs : List ℕ). bs ++ leb128 (rest / 128)) (take_more_set out k (rest % 128 + 128) h)
          ∙ append_assoc (take k out) ((rest % 128 + 128) ∷ []) (leb128 (rest / 128))
          ∙ ap (λ (bs : List ℕ). take k out ++ bs) (sym more) ∙ g.0,
      drop-set-lt (k + 1) out k (rest % 128 + 128) (omega arith) ∙ drop-more k out old g.1,
      omega (arith, ap length more, g.2),
      simp length-set g.3,
      omega (arith, g.4),
    )

-- the last group
pub grouping-last : (value : ℕ) (old : List ℕ) (rest k : ℕ) (out : List ℕ) → rest < 128 → k < length out → Grouping value old rest k out
    → (length (leb128 value) ≤ length old) × (k + 1 ≡ length (leb128 value)) × (slice_set out k rest ≡ leb128 value ++ drop (k + 1) old)
grouping-last value old rest k out s h g =
    let last = leb_small rest s in
    let long : length (leb128 rest) ≡ 1 = ap length last in (
      omega (arith, long, g.2, g.3),
      omega (arith, long, g.2),
      sym (overlaid-one k rest out h) ∙ sym (append_assoc (take k out) (rest ∷ []) (drop (k + 1) out))
          ∙ ap₂ (λ (xs ys : List ℕ). xs ++ ys) (ap (λ (bs : List ℕ). take k out ++ bs) (sym last) ∙ g.0) (drop-more k out old g.1),
    )

-- a group found no room
pub grouping-none : (value : ℕ) (old : List ℕ) (rest k : ℕ) (out : List ℕ) → length out ≤ k → Grouping value old rest k out → length old < length (leb128 value)
grouping-none value old rest k out h g = omega (arith, form-some (leb128 rest) (leb-fewest rest g.4).form, g.2, g.3)

-- ---- reading: the place of the first byte without mark

abbrev pub unmarked : ℕ → Bool
unmarked b = nat_lt b 128

-- what its place among the first ten bytes tells, where they are too few or not
abbrev pub answer : ℕ → Bool → Option ℕ → Result ℕ Fault
answer layer few (Some last) = Ok (last + 1)
answer layer few None = cond few (Err (fault Short (layer + 0))) (Err (fault Bad (layer + 0)))

fewer : (a b : ℕ) → nat_lt (suc a) (suc b) ≡ nat_lt a b
fewer a b =
    elim (cases_lt a b) [
      | inl h ↦ lt-ltb (suc a) (suc b) (omega arith) ∙ sym (lt-ltb a b h)
      | inr h ↦ le-ltb (suc a) (suc b) (omega arith) ∙ sym (le-ltb a b h)
    ]

-- after i bytes xs
front-told : (layer k i : ℕ) (xs bs : List ℕ) → told layer (onto xs i (front k bs)) ≡ answer layer (nat_lt (length bs) k) (position_from unmarked i (take k bs))
front-told layer zero i xs bs = sym (ap (λ few. answer layer few None) (le-ltb (length bs) 0 (omega arith)))
front-told layer (suc k) i xs [] = sym (ap (λ few. answer layer few None) (lt-ltb 0 (suc k) (omega arith)))
front-told layer (suc k) i xs (b ∷ bs) =
    elim (cases_lt b 128) [
      | inl s ↦ rw (lt-ltb b 128 s) refl
      | inr m ↦ rw (le-ltb b 128 m) (ap (told layer) (onto-onto xs (b ∷ []) i 1 (front k bs)) ∙ front-told layer k (i + 1) (xs ++ b ∷ []) bs ∙ ap (λ few. answer layer few (position_from unmarked (i + 1) (take k bs))) (sym (fewer (length bs) k)))
    ]

told-onto : (layer : ℕ) (p : Parsed (List ℕ)) → told layer (onto [] 0 p) ≡ told layer p
told-onto layer (got form used) = ap Ok (omega arith)
told-onto layer (short depth) = refl
told-onto layer (bad depth) = refl

pub front-found : (layer : ℕ) (bs : List ℕ) → told layer (front 10 bs) ≡ answer layer (nat_lt (length bs) 10) (position unmarked (take 10 bs))
front-found layer bs =
    sym (told-onto layer (front 10 bs)) ∙ front-told layer 10 0 [] bs ∙ ap (answer layer (nat_lt (length bs) 10)) (sym (position_from-zero unmarked (take 10 bs)))

-- a form's size tells its bytes
pub front-got : (layer : ℕ) (bs : List ℕ) (size : ℕ) → Ok size ≡ told layer (front 10 bs) → (front 10 bs ≡ got (take size bs) size) × Fronted 10 bs (got (take size bs) size)
front-got layer bs size e = go (front 10 bs) refl (fronted 10 bs) e
  where
    go : (p : Parsed (List ℕ)) → front 10 bs ≡ p → Fronted 10 bs p → Ok size ≡ told layer p → (front 10 bs ≡ got (take size bs) size) × Fronted 10 bs (got (take size bs) size)
    go (got form used) is f e =
        let same : used ≡ size = cc in
        let bytes : form ≡ take size bs = f.0 ∙ ap (λ n. take n bs) same in
        (is ∙ ap₂ got bytes same, (refl, rw same at f.1, rw same at f.2, rw same at f.3, rw same at f.4))
    go (short depth) is f e = let z : ◌≡◌ {A = ℕ} 0 1 = cc in absurd (omega arith)
    go (bad depth) is f e = let z : ◌≡◌ {A = ℕ} 0 1 = cc in absurd (omega arith)

-- the groups from the tenth on bound the number from above and from below
total-under : (k : ℕ) (bs : List ℕ) → total 128 (drop k bs) ≤ 1 → total 128 bs < 128 ^ k * 2
total-under zero bs h = omega arith
total-under (suc k) [] h = omega (arith, total-under k [] (omega (arith, ap (total 128) (drop_all k [] (omega arith)))))
total-under (suc k) (b ∷ bs) h = omega (arith, total-under k bs h)

total-over : (k : ℕ) (bs : List ℕ) → 2 ≤ total 128 (drop k bs) → 128 ^ k * 2 ≤ total 128 bs
total-over zero bs h = omega arith
total-over (suc k) [] h = absurd (omega arith)
total-over (suc k) (b ∷ bs) h = omega (arith, total-over k bs h)

tenth : (bs : List ℕ) (size : ℕ) → size ≤ length bs → size ≡ 10 → slice_index bs 9 < 128 → total 128 (drop 9 (take size bs)) ≡ slice_index bs 9
tenth bs size l e s =
    let long : length (take size bs) ≡ 10 = length-take size bs ∙ omega arith in
    let there : slice_index_or (take size bs) 9 0 ≡ slice_index_or bs 9 0 = get_or-take size bs 9 0 (omega arith) in
    let only : drop 9 (take size bs) ≡ slice_index bs 9 ∷ [] = drop_more (take size bs) 9 0 (omega (arith, long)) ∙ ap₂ (λ (x : ℕ) (xs : List ℕ). x ∷ xs) there (drop_all 10 (take size bs) (omega (arith, long))) in
    ap (total 128) only ∙ omega arith

-- a form whose tenth group is at most 1 fits 64 bits
pub form-fits : (bs : List ℕ) (size : ℕ) → Fronted 10 bs (got (take size bs) size) → (size ≡ 10 → slice_index bs 9 ≤ 1) → total 128 (take size bs) < 2 ^ 64
form-fits bs size f small = omega (arith, total-under 9 (take size bs) (high (cases_lt size 10)))
  where
    high : (size < 10) ⊎ (10 ≤ size) → total 128 (drop 9 (take size bs)) ≤ 1
    high (inl s) = rw (drop_all 9 (take size bs) (simp length-take (omega arith))) (omega arith)
    high (inr m) = let e : size ≡ 10 = omega (arith, f.2) in omega (arith, tenth bs size f.3 e (omega (arith, small e)), small e)

-- and one whose tenth group is above 1 fits no width
pub form-large : (w : ℕ) (bs : List ℕ) (size : ℕ) → listed w ≡ true → Fronted 10 bs (got (take size bs) size) → size ≡ 10 → 1 < slice_index bs 9 → 2 ^ w ≤ total 128 (take size bs)
form-large w bs size l f e large =
    let last : slice_index_or bs 9 0 < 128 = let nine : size - 1 ≡ 9 = omega arith in rw nine at f.4 in
    omega (arith, total-over 9 (take size bs) (omega (arith, tenth bs size f.3 e last)), pow_mono (width-most w l))

-- ---- what reading one value answers

pub one-bad : (layer w : ℕ) (bs : List ℕ) (size : ℕ) → front 10 bs ≡ got (take size bs) size → 2 ^ w ≤ total 128 (take size bs) → Err (fault Bad layer) ≡ taken layer (short_one w bs)
one-bad layer w bs size e h = ap (λ n. Err (fault Bad n)) (sym (add-zero layer)) ∙ rw (e, le-ltb (total 128 (take size bs)) (2 ^ w) h) refl

pub one-got : (layer w : ℕ) (bs : List ℕ) (size number : ℕ) → front 10 bs ≡ got (take size bs) size → number ≡ total 128 (take size bs) → number < 2 ^ w → Ok (record { value = number; size = size }) ≡ taken layer (short_one w bs)
one-got layer w bs size number e is h = rw (e, ← is, lt-ltb number (2 ^ w) h) refl
