-- The flat kind is lawful.
use Rattle.std.specs.Prelude.{◌≡◌, ℕ, zero, suc, ◌/◌, ◌^◌, ◌<◌, ◌≤◌, List, length, take, refl, Bool, true, false, cond, ltb, leb, ◌++◌, nat_le, nat_lt}
use Rattle.std.proofs.Common.{ap, arith}
use Rattle.std.proofs.lemmas.List.{take_at, length-append}
use Rattle.column.specs.Widths.{Bytes, listed}
use Rattle.column.specs.Digits.{low, total}
use Rattle.std.proofs.lemmas.Bool.{lt-ltb, le-leb, ltb-true, leb-true}
use Rattle.column.specs.Parsed.{got, short, bad}
use Rattle.column.specs.Coded.{Coding, Fitting}
use Rattle.column.specs.Flat.{size, flat_one}
use Rattle.column.specs.Laws.Listed.{at_listed}

-- ---- digits

length-low : (base k v : ℕ) → length (low base k v) ≡ k
length-low base zero v = refl
length-low base (suc k) v = ap suc (length-low base k (v / base))

bytes_low : (k v : ℕ) → Bytes (low 256 k v)
bytes_low zero v = tt
bytes_low (suc k) v = (omega arith, bytes_low k (v / 256))

total-low : (k v : ℕ) → v < 256 ^ k → total 256 (low 256 k v) ≡ v
total-low zero v h = omega arith
total-low (suc k) v h = omega (arith, total-low k (v / 256) (omega arith))

-- ---- the laws

-- a value of a width fits its bytes
wide : (w : ℕ) → listed w ≡ true → 2 ^ w ≤ 256 ^ size w
wide = at_listed (λ w. 2 ^ w ≤ 256 ^ size w) (omega arith) (omega arith) (omega arith) (omega arith) (omega arith)

reads : (w v : ℕ) (rest : List ℕ) → listed w ≡ true → v < 2 ^ w → flat_one w (low 256 (size w) v ++ rest) ≡ got v (length (low 256 (size w) v))
reads w v rest l b =
    let long = length-low 256 (size w) v in
    let front : take (size w) (low 256 (size w) v ++ rest) ≡ low 256 (size w) v = take_at (low 256 (size w) v) rest (size w) long in
    let there : leb (size w) (length (low 256 (size w) v ++ rest)) ≡ true = le-leb (size w) _ (omega (arith, length-append (low 256 (size w) v) rest, long)) in
    let same : total 256 (low 256 (size w) v) ≡ v = total-low (size w) v (omega (arith, wide w l)) in
    let fits : ltb v (2 ^ w) ≡ true = lt-ltb v (2 ^ w) b in
    rw (there, front, same, fits, long) refl

fitting : (w : ℕ) (bs : List ℕ) → Fitting w bs (flat_one w bs)
fitting w bs = enough (nat_le (size w) (length bs)) refl
  where
    small : (t : Bool) → nat_lt (total 256 (take (size w) bs)) (2 ^ w) ≡ t → size w ≤ length bs → Fitting w bs (cond t (got (total 256 (take (size w) bs)) (size w)) (bad 0))
    small true e le = (ltb-true _ (2 ^ w) e, le)
    small false e le = tt

    enough : (t : Bool) → nat_le (size w) (length bs) ≡ t → Fitting w bs (cond t (cond (nat_lt (total 256 (take (size w) bs)) (2 ^ w)) (got (total 256 (take (size w) bs)) (size w)) (bad 0)) (short 0))
    enough true e = small (nat_lt (total 256 (take (size w) bs)) (2 ^ w)) refl (leb-true (size w) (length bs) e)
    enough false e = tt

pub flat-coding : Coding (λ w. low 256 (size w)) flat_one
flat-coding = record { reads = reads; bytes = λ w v l b. bytes_low (size w) v; fitting = λ w bs l b. fitting w bs }
