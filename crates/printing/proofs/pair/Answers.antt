use Rattle.std.proofs.Common.{rules, ◌≡◌, ℕ, ◌+◌, ◌-◌, ◌*◌, ◌/◌, ◌%◌, ◌<◌, false, List, [], ◌∷◌, map, take, drop, get_or, nat_lt, IsAscii, refl, sym, ap, ◌∙◌, arith}
use Rattle.std.proofs.lemmas.Bool.{ltb-true}
use Rattle.std.proofs.lemmas.Bool.Decides.{Decides-by_and}
use Rattle.std.proofs.lemmas.Fmt.{hex_byte}
use Rattle.std.proofs.lemmas.List.FromFn.{get_or-map-range_with_len}
use Rattle.std.proofs.lemmas.Str.Ascii.{IsAscii-from_all}
use Rattle.std.specs.Fmt.{digit_glyph}
use Rattle.std.specs.List.{list_all, range_with_len}
use Rattle.printing.specs.Printed.{hex_pair}
use Rattle.printing.specs.declared.TheConstants.{PAIRS}
use Rattle.printing.proofs.pair.Goals as goal

-- what the table has for a byte
abbrev entry : ℕ → List ℕ
entry n = take 2 (drop (n * 2) PAIRS.now)

-- the two digits of a byte
abbrev glyphs : ℕ → List ℕ
glyphs n = digit_glyph false (n / 16) ∷ digit_glyph false (n % 16) ∷ []

table_is : map entry (range_with_len 0 256) ≡ map glyphs (range_with_len 0 256)
table_is = refl

entry_is : (n : ℕ) → n < 256 → entry n ≡ hex_pair n
entry_is n h = sym (get_or-map-range_with_len entry 0 256 n n [] h (omega arith))
    ∙ ap (λ t. get_or t n []) table_is ∙ get_or-map-range_with_len glyphs 0 256 n n [] h (omega arith)
    ∙ sym (hex_byte false n h)

-- each character is one byte, so that the table may be cut anywhere
IsAscii-table : IsAscii PAIRS.now
IsAscii-table = IsAscii-from_all PAIRS.now ((Decides-by_and (λ b. nat_lt b 128) (λ b. b < 128) (list_all (λ b. nat_lt b 128)) (λ b. (ltb-true b 128, λ h. search rules)) refl (λ _ _. refl) PAIRS.now).0 refl)

pub range-requires-clause-start_boundary : goal.range-requires-clause-start_boundary
range-requires-clause-start_boundary c =
    λ _. (omega arith, λ a b. absurd (omega (arith, IsAscii-table (c.from-start.result * 2))))

pub range-requires-clause-end_boundary : goal.range-requires-clause-end_boundary
range-requires-clause-end_boundary c = (omega arith, λ a b. absurd (omega (arith, IsAscii-table (c.from-start.result * 2 + 2))))

pub returns : goal.returns
returns c =
    let at = c.from-start.result in
    let width : at * 2 + 2 - at * 2 ≡ 2 = omega arith in
    let read : c.range.result.now ≡ take (at * 2 + 2 - at * 2) (drop (at * 2) PAIRS.now) = c.range.ensures.value in
    read ∙ ap (λ (n : ℕ). take n (drop (at * 2) PAIRS.now)) width ∙ entry_is at (omega arith) ∙ ap hex_pair c.from-start.ensures
