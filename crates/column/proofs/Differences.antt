-- Steps: one step on 64 bits, and the loops, which change a list in place.
use Rattle.std.specs.Prelude.{◌≡◌, ℕ, suc, ◌+◌, ◌-◌, ◌*◌, ◌%◌, ◌^◌, ◌<◌, ◌≤◌, List, [], ◌∷◌, ◌++◌, length, take, drop, bit_and, slice_set}
use Rattle.std.proofs.Common.{sym, ◌∙◌, ap, arith, pow_pos, pow-add}
use Rattle.std.proofs.Math.Nat.{add-mul-mod_self_left}
use Rattle.std.proofs.Math.Pow.{mod-mod-pow}
use Rattle.std.proofs.lemmas.Nat.{and_mask}
use Rattle.std.proofs.lemmas.List.{take_more_set, drop-set-lt, append_assoc}

-- ---- one step

-- within a width of at most 64 bits, what 64 bits hold decides
narrowed : (w : ℕ) → w ≤ 64 → (n : ℕ) → n % 2 ^ 64 % 2 ^ w ≡ n % 2 ^ w
narrowed w h n = let e : 64 - w + w ≡ 64 = omega arith in ap (λ k. n % 2 ^ k % 2 ^ w) (sym e) ∙ mod-mod-pow n (64 - w) w

pub added : (w top : ℕ) → w ≤ 64 → top ≡ 2 ^ w - 1 → (n : ℕ) → bit_and (n % 2 ^ 64) top ≡ n % 2 ^ w
added w top h e n = ap (bit_and (n % 2 ^ 64)) e ∙ and_mask (n % 2 ^ 64) w ∙ narrowed w h n

pub subtracted : (w top : ℕ) → w ≤ 64 → top ≡ 2 ^ w - 1 → (v last : ℕ) → last < 2 ^ w → bit_and ((v + (2 ^ 64 - last)) % 2 ^ 64) top ≡ (v + 2 ^ w - last) % 2 ^ w
subtracted w top h e v last b =
    let e64 : w + (64 - w) ≡ 64 = omega arith in
    let whole : 2 ^ 64 ≡ 2 ^ w * 2 ^ (64 - w) = ap (λ k. 2 ^ k) (sym e64) ∙ pow-add 2 w (64 - w) in
    let one : 2 ^ (64 - w) ≡ suc (2 ^ (64 - w) - 1) = omega (arith, pow_pos (64 - w)) in
    let more : 2 ^ w * 2 ^ (64 - w) ≡ 2 ^ w + 2 ^ w * (2 ^ (64 - w) - 1) = ap (λ k. 2 ^ w * k) one ∙ omega arith in
    let part : v + (2 ^ 64 - last) ≡ v + 2 ^ w - last + 2 ^ w * (2 ^ (64 - w) - 1) = omega (arith, whole, more) in
    added w top h e (v + (2 ^ 64 - last)) ∙ ap (λ n. n % 2 ^ w) part ∙ add-mul-mod_self_left (v + 2 ^ w - last) (2 ^ w) (2 ^ (64 - w) - 1)

-- ---- the loops: what was changed, and what is left gives the whole list

pub changed-more : (F G : List ℕ → List ℕ) (vs : List ℕ) (i d : ℕ) (all : List ℕ) → i < length vs → F (drop i vs) ≡ d ∷ G (drop (i + 1) vs)
    → take i vs ++ F (drop i vs) ≡ all → take (i + 1) (slice_set vs i d) ++ G (drop (i + 1) (slice_set vs i d)) ≡ all
changed-more F G vs i d all h e f =
    ap (λ (xs : List ℕ). xs ++ G (drop (i + 1) (slice_set vs i d))) (take_more_set vs i d h)
    ∙ ap (λ (ys : List ℕ). (take i vs ++ d ∷ []) ++ G ys) (drop-set-lt (i + 1) vs i d (omega arith))
    ∙ append_assoc (take i vs) (d ∷ []) (G (drop (i + 1) vs))
    ∙ ap (λ (ys : List ℕ). take i vs ++ ys) (sym e)
    ∙ f
