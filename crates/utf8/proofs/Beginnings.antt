-- ASCII bytes at the beginning of a text do not decide whether it is well-formed.
use Rattle.std.proofs.Common.{◌≡◌, ℕ, ◌+◌, ◌-◌, ◌<◌, ◌≤◌, List, [], ◌∷◌, ◌++◌, length, get_or, take, drop, bit_and, sym, refl, ap, ◌∙◌, subst, append_assoc, arith, lit<}
use Rattle.std.specs.List.{AllByRecursion}
use Rattle.std.proofs.lemmas.Bool.{le-leb, and_from}
use Rattle.std.proofs.lemmas.List.{take_rest, take-append-drop, get_or-append-add}
use Rattle.std.specs.Int.{w64, bit_at, from_le_bytes}
use Rattle.std.proofs.lemmas.Nat.Bits.{bit_at_and, bit_at-zero}
use Rattle.std.proofs.ByRecursion.{has_get_or, All-append}
use Rattle.utf8.specs.Table.{table}
use Rattle.utf8.specs.Ascii.{Past}
use Rattle.utf8.proofs.Rows.{Alike, after-row}

-- one byte of ASCII
alike-one : (b : ℕ) (s : List ℕ) → b ≤ 0x7f → Alike s (b ∷ s)
alike-one b s l = after-row (get_or table 0 []) (b ∷ s) (has_get_or table 0 [] (lit< tt)) (and_from _ _ (and_from _ _ (le-leb 0 b (omega arith)) (le-leb b 0x7f l)) refl)

-- what is left after some is alike the text
pub past-alike : (text rest : List ℕ) → Past text rest → Alike rest text
past-alike text rest (front, e, a) = subst (Alike rest) (sym e) (go front a)
  where
    go : (front : List ℕ) → AllByRecursion (λ b. b ≤ 0x7f) front → Alike rest (front ++ rest)
    go [] a = (λ w. w, λ w. w)
    go (b ∷ bs) a = let one = alike-one b (bs ++ rest) a.0 in let more = go bs a.1 in (λ w. one.0 (more.0 w), λ w. more.1 (one.1 w))

-- the highest bit of each of eight bytes
abbrev high_bits : ℕ
high_bits = 0x8080808080808080

-- where none of them is set, each is 0
clear : (n k : ℕ) → bit_and n high_bits ≡ 0 → bit_at high_bits k ≡ 1 → bit_at n k ≡ 0
clear n k none one = let x = ap (λ m. bit_at m k) none in omega (arith, bit_at_and n high_bits k, x, bit_at-zero k, one)

-- the first eight bytes as one number, low byte first
abbrev pub eight : List ℕ → ℕ
eight s = from_le_bytes w64 (get_or s 0 0 ∷ get_or s 1 0 ∷ get_or s 2 0 ∷ get_or s 3 0 ∷ get_or s 4 0 ∷ get_or s 5 0 ∷ get_or s 6 0 ∷ get_or s 7 0 ∷ [])

first-eight : (s : List ℕ) → 8 ≤ length s → ((i : ℕ) → get_or s i 0 < 256) → bit_and (eight s) high_bits ≡ 0 → AllByRecursion (λ b. b ≤ 0x7f) (take 8 s)
first-eight [] n small none = absurd (omega arith)
first-eight (a ∷ []) n small none = absurd (omega arith)
first-eight (a ∷ b ∷ []) n small none = absurd (omega arith)
first-eight (a ∷ b ∷ c ∷ []) n small none = absurd (omega arith)
first-eight (a ∷ b ∷ c ∷ d ∷ []) n small none = absurd (omega arith)
first-eight (a ∷ b ∷ c ∷ d ∷ e ∷ []) n small none = absurd (omega arith)
first-eight (a ∷ b ∷ c ∷ d ∷ e ∷ f ∷ []) n small none = absurd (omega arith)
first-eight (a ∷ b ∷ c ∷ d ∷ e ∷ f ∷ g ∷ []) n small none = absurd (omega arith)
first-eight (a ∷ b ∷ c ∷ d ∷ e ∷ f ∷ g ∷ h ∷ r) n small none =
    let bits : (k : ℕ) → bit_at high_bits k ≡ 1 → bit_at (eight (a ∷ b ∷ c ∷ d ∷ e ∷ f ∷ g ∷ h ∷ r)) k ≡ 0 = λ k one. clear _ k none one in
    let all : (a < 256) × (b < 256) × (c < 256) × (d < 256) × (e < 256) × (f < 256) × (g < 256) × (h < 256) = (small 0, small 1, small 2, small 3, small 4, small 5, small 6, small 7) in
    let first : a ≤ 0x7f = omega (arith, all, bits 7 refl) in
    let second : b ≤ 0x7f = omega (arith, all, bits 15 refl) in
    let third : c ≤ 0x7f = omega (arith, all, bits 23 refl) in
    let fourth : d ≤ 0x7f = omega (arith, all, bits 31 refl) in
    let fifth : e ≤ 0x7f = omega (arith, all, bits 39 refl) in
    let sixth : f ≤ 0x7f = omega (arith, all, bits 47 refl) in
    let seventh : g ≤ 0x7f = omega (arith, all, bits 55 refl) in
    let eighth : h ≤ 0x7f = omega (arith, all, bits 63 refl) in
    (first, (second, (third, (fourth, (fifth, (sixth, (seventh, (eighth, tt))))))))

-- so many more
onward : (k : ℕ) (text s : List ℕ) → Past text s → AllByRecursion (λ b. b ≤ 0x7f) (take k s) → Past text (take (length s - k) (drop k s))
onward k text s (front, e, a) l =
    rw (take_rest s k)
    (front ++ take k s, e ∙ ap (λ z. front ++ z) (sym (take-append-drop k s)) ∙ sym (append_assoc front (take k s) (drop k s)), All-append (λ b. b ≤ 0x7f) front (take k s) a l)

-- what is left of bytes is bytes
left-small : (text s : List ℕ) → Past text s → ((i : ℕ) → get_or text i 0 < 256) → (i : ℕ) → get_or s i 0 < 256
left-small text s (front, e, a) small i = let same = ap (λ t. get_or t (length front + i) 0) e ∙ get_or-append-add front s i 0 in omega (arith, small (length front + i), same)

-- eight more
pub past-eight : (text s : List ℕ) → Past text s → 8 ≤ length s → ((i : ℕ) → get_or text i 0 < 256) → (m : ℕ) → m ≡ eight s → bit_and m high_bits ≡ 0 → Past text (take (length s - 8) (drop 8 s))
past-eight text s p n small m is none = onward 8 text s p (first-eight s n (left-small text s p small) (ap (λ k. bit_and k high_bits) (sym is) ∙ none))

-- one more
pub past-one : (text s : List ℕ) → Past text s → 1 ≤ length s → get_or s 0 0 ≤ 0x7f → Past text (take (length s - 1) (drop 1 s))
past-one text [] p n l = absurd (omega arith)
past-one text (b ∷ s) p n l = onward 1 text (b ∷ s) p (l, tt)
