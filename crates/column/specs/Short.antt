-- The short kind: a value is an unsigned LEB128 number, as in DWARF 5, 7.6.
use Rattle.std.specs.Prelude.{◌≡◌, ℕ, zero, suc, ◌+◌, ◌/◌, ◌%◌, ◌^◌, ◌<◌, ◌≤◌, cond, List, [], ◌∷◌, length, nat_lt}
use Rattle.column.specs.Parsed.{Parsed, got, short, bad, and_then}
use Rattle.column.specs.Meaning.{Meaning}
use Rattle.column.specs.Coded.{onto, coded}
use Rattle.column.specs.Digits.{total}

-- a form: groups of seven bits, one to a byte, the lowest first; each byte but the last is marked by 128
abbrev pub Form : List ℕ → Type 0
Form [] = ⊥
Form (b ∷ []) = b < 128
Form (b ∷ (c ∷ bs)) = (128 ≤ b) × (b < 256) × Form (c ∷ bs)

-- a form of this value, and none of its forms is shorter
pub record Fewest (v : ℕ) (bytes : List ℕ) : Type 0 where
  pub form : Form bytes
  pub value : total 128 bytes ≡ v
  pub least : (other : List ℕ) → Form other → total 128 other ≡ v → length bytes ≤ length other

-- the groups of a value up to its highest that is not zero, at most k before the last
abbrev pub groups : ℕ → ℕ → List ℕ
groups zero v = v ∷ []
groups (suc k) v = cond (nat_lt v 128) (v ∷ []) ((v % 128 + 128) ∷ groups k (v / 128))

-- a value of 64 bits has at most ten groups
unfoldable pub leb128 : ℕ → List ℕ
leb128 v = groups 9 v

-- the form in front, of at most k bytes: SHORT where the input ends inside it, BAD where it goes on past k bytes
abbrev pub front : ℕ → List ℕ → Parsed (List ℕ)
front zero bytes = bad 0
front (suc k) [] = short 0
front (suc k) (b ∷ bytes) = cond (nat_lt b 128) (got (b ∷ []) 1) (onto (b ∷ []) 1 (front k bytes))

-- one value: a form of at most ten bytes, judged when it is whole, BAD where it does not fit the width
abbrev pub short_one : ℕ → List ℕ → Parsed ℕ
short_one w bytes =
    and_then (front 10 bytes) (λ form used. cond (nat_lt (total 128 form) (2 ^ w)) (got (total 128 form) used) (bad 0))

abbrev pub short_kind : Meaning
short_kind = coded (λ w. leb128) short_one
