-- What reading answers, and how a fault is told.
use Rattle.std.specs.Prelude.{ℕ, ◌+◌, min, List, [], Ok, Err, Result}
use Rattle.column.specs.declared.fault.Cause.{Cause}
use Rattle.column.specs.declared.fault.Cause.TheVariants.{Short, Bad}
use Rattle.column.specs.declared.fault.Fault.{Fault}

-- what was read and how many bytes that took; or a fault, with the number of layers between the reader and the layer that found it
pub data Parsed (X : Type 0) : Type 0 where
  got : X → ℕ → Parsed X
  short : ℕ → Parsed X
  bad : ℕ → Parsed X

-- a fault at a layer: layers are counted up to 65,535 and no further
abbrev pub fault : Cause → ℕ → Fault
fault c layer = record { cause = c; layer = min layer 65535 }

-- the answer of a layer that reads so: the number of bytes, or the fault
abbrev pub told : {X : Type 0} → ℕ → Parsed X → Result ℕ Fault
told layer (got x used) = Ok used
told layer (short depth) = Err (fault Short (layer + depth))
told layer (bad depth) = Err (fault Bad (layer + depth))

-- the values that were read, none after a fault
abbrev pub values_of : Parsed (List ℕ) → List ℕ
values_of (got vs used) = vs
values_of (short depth) = []
values_of (bad depth) = []

-- what was read goes on to a second reading; a fault stays as it is
abbrev pub and_then : {X Y : Type 0} → Parsed X → (X → ℕ → Parsed Y) → Parsed Y
and_then (got x used) next = next x used
and_then (short depth) next = short depth
and_then (bad depth) next = bad depth
