-- 64-bit FNV-1a.
use Rattle.std.specs.Prelude.{ℕ, ◌*◌, ◌%◌, ◌^◌, List, fold, bit_xor, Ok, Err, Result}
use Rattle.std.specs.Int.{w64, to_le_bytes}
use Rattle.column.specs.declared.fault.Cause.{Cause}
use Rattle.column.specs.declared.fault.Cause.TheVariants.{Room, Short, Bad}
use Rattle.column.specs.declared.fault.Fault.{Fault}

-- the state after one more byte
abbrev pub hashed : ℕ → ℕ → ℕ
hashed state byte = bit_xor state byte * 1099511628211 % 2 ^ 64

-- the state after a number as eight bytes, low byte first
abbrev pub numbered : ℕ → ℕ → ℕ
numbered state number = fold hashed state (to_le_bytes w64 number)

-- the code of a cause
abbrev pub code_of : Cause → ℕ
code_of Room = 1
code_of Short = 2
code_of Bad = 3

-- the state after one read: 0, the bytes used and the values; or the cause's code, and the layer
abbrev pub with_read : ℕ → Result ℕ Fault → List ℕ → ℕ
with_read state (Ok used) values = fold numbered (numbered (hashed state 0) used) values
with_read state (Err fault) values = numbered (hashed state (code_of fault.cause)) fault.layer
