-- The flat kind: a value is one byte for width 1, else width / 8 bytes, low byte first.
use Rattle.std.specs.Prelude.{ℕ, ◌/◌, ◌^◌, cond, List, length, take, ◌==◌, nat_le, nat_lt}
use Rattle.column.specs.Parsed.{Parsed, got, short, bad}
use Rattle.column.specs.Meaning.{Meaning}
use Rattle.column.specs.Coded.{coded}
use Rattle.column.specs.Digits.{low, total}

-- the number of bytes of a value
abbrev pub size : ℕ → ℕ
size w = cond (w == 1) 1 (w / 8)

-- one value: SHORT where a byte is missing, BAD where it does not fit the width, as a byte above 1 for width 1
abbrev pub flat_one : ℕ → List ℕ → Parsed ℕ
flat_one w bytes =
    cond (nat_le (size w) (length bytes)) (cond (nat_lt (total 256 (take (size w) bytes)) (2 ^ w)) (got (total 256 (take (size w) bytes)) (size w)) (bad 0)) (short 0)

abbrev pub flat : Meaning
flat = coded (λ w. low 256 (size w)) flat_one
