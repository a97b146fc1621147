-- 64-bit FNV-1a.
use Rattle.std.specs.Prelude.{ℕ, List, ◌*◌, ◌%◌, ◌^◌, bit_xor, fold}

-- the state after one more byte
abbrev pub hashed : ℕ → ℕ → ℕ
hashed state byte = bit_xor state byte * 1099511628211 % 2 ^ 64

-- the digest of bytes
abbrev pub digest_of : List ℕ → ℕ
digest_of bytes = fold hashed 14695981039346656037 bytes
