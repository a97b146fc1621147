-- Numbers as digits, the lowest first.
use Rattle.std.specs.Prelude.{◌≡◌, ℕ, zero, suc, ◌+◌, ◌*◌, ◌%◌, ◌^◌, ◌<◌, ◌≤◌, List, [], ◌∷◌, length, reverse, bit_and, bit_or, ◌-◌, take, drop, slice_index, slice_index_or}
use Rattle.std.proofs.Common.{◌∙◌, ap, ap₂, arith, sym, mul_comm, mul-le-mul_left}
use Rattle.std.specs.List.{fold}
use Rattle.std.proofs.lemmas.List.{reverse-append, drop_more, get_or-take, get_or-drop, length-take, length-drop}
use Rattle.std.proofs.lemmas.List.Sums.{fold-append}
use Rattle.std.proofs.lemmas.Nat.{or_shifted, and_mask}
use Rattle.column.specs.Digits.{total}

pub total-small : (k : ℕ) (bs : List ℕ) → length bs ≤ k → total 256 bs < 256 ^ k
total-small zero [] h = omega arith
total-small zero (b ∷ bs) h = absurd (omega arith)
total-small (suc k) [] h = omega (arith, total-small k [] (omega arith))
total-small (suc k) (b ∷ bs) h = omega (arith, total-small k bs (omega arith))

-- a number by the digit at a place and those above it
pub total-at : (base : ℕ) (bs : List ℕ) (k : ℕ) → k < length bs → total base (drop k bs) ≡ slice_index bs k % base + base * total base (drop (k + 1) bs)
total-at base bs k h = ap (total base) (drop_more bs k 0 h)

-- the digits from a place on write no more than all of them
pub total-part : (base : ℕ) → 0 < base → (k : ℕ) (bs : List ℕ) → total base (drop k bs) ≤ total base bs
total-part base p zero bs = omega arith
total-part base p (suc k) [] = omega arith
total-part base p (suc k) (b ∷ bs) = omega (arith, total-part base p k bs, mul-le-mul_left (total base bs) p)

-- the digits of a part of the input, from the next one on
pub number_more : (base size : ℕ) (input : List ℕ) (place k number : ℕ) → place + size ≤ length input → 0 < k → k ≤ size
    → number ≡ total base (drop k (take size (drop place input)))
    → number * base + slice_index input (place + (k - 1)) % base ≡ total base (drop (k - 1) (take size (drop place input)))
number_more base size input place k number room p le e =
    let bs : List ℕ = take size (drop place input) in
    let long : length bs ≡ size = length-take size (drop place input) ∙ omega (arith, length-drop place input) in
    let digit : slice_index_or bs (k - 1) 0 ≡ slice_index_or input (place + (k - 1)) 0 = get_or-take size (drop place input) (k - 1) 0 (omega arith) ∙ get_or-drop place input (k - 1) 0 in
    let next : k - 1 + 1 ≡ k = omega arith in
    let whole : total base (drop (k - 1) bs) ≡ slice_index input (place + (k - 1)) % base + base * number =
    total-at base bs (k - 1) (omega (arith, long)) ∙ ap (λ d. d % base + base * total base (drop (k - 1 + 1) bs)) digit ∙ ap (λ n. slice_index input (place + (k - 1)) % base + base * total base (drop n bs)) next ∙ ap (λ t. slice_index input (place + (k - 1)) % base + base * t) (sym e) in
    omega (arith, whole, mul_comm number base)

-- seven bits more
joined : (n b : ℕ) → bit_or (n % 2 ^ 64 * 2 ^ 7 % 2 ^ 64) (bit_and b 127) ≡ (b % 128 + 128 * n) % 2 ^ 64
joined n b =
    let low : bit_and b 127 ≡ b % 128 = and_mask b 7 in
    let high : n % 2 ^ 64 * 2 ^ 7 % 2 ^ 64 ≡ n % 2 ^ 57 * 2 ^ 7 = omega arith in
    ap₂ bit_or high low ∙ or_shifted (n % 2 ^ 57) 7 (b % 128) (omega arith) ∙ omega arith

-- the bytes from the last to the first, seven bits of each
pub total-folded : (bs : List ℕ) → fold (λ n b. bit_or (n * 2 ^ 7 % 2 ^ 64) (bit_and b 127)) 0 (reverse bs) ≡ total 128 bs % 2 ^ 64
total-folded [] = omega arith
total-folded (b ∷ bs) =
    ap (fold (λ n b. bit_or (n * 2 ^ 7 % 2 ^ 64) (bit_and b 127)) 0) (reverse-append (b ∷ []) bs)
    ∙ fold-append (λ n b. bit_or (n * 2 ^ 7 % 2 ^ 64) (bit_and b 127)) 0 (reverse bs) (b ∷ [])
    ∙ ap (λ n. bit_or (n * 2 ^ 7 % 2 ^ 64) (bit_and b 127)) (total-folded bs)
    ∙ joined (total 128 bs) b
