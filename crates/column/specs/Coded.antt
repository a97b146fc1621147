-- Kinds that put one value after another, each as a code of its own.
use Rattle.std.specs.Prelude.{◌≡◌, ℕ, zero, suc, ◌+◌, ◌^◌, ◌<◌, ◌≤◌, true, cond, List, [], ◌∷◌, ◌++◌, length, drop, Ok, Err, Result}
use Rattle.std.specs.List.{flat_map}
use Rattle.column.specs.declared.fault.Cause.TheVariants.{Short, Bad}
use Rattle.column.specs.declared.fault.Fault.{Fault}
use Rattle.column.specs.declared.coded.Taken.{Taken}
use Rattle.column.specs.Widths.{listed, Bytes}
use Rattle.column.specs.Parsed.{Parsed, got, short, bad, fault, and_then}
use Rattle.column.specs.Meaning.{Meaning}

-- what was read after these values, which took so many bytes
abbrev pub onto : List ℕ → ℕ → Parsed (List ℕ) → Parsed (List ℕ)
onto vs size (got more used) = got (vs ++ more) (size + used)
onto vs size (short depth) = short depth
onto vs size (bad depth) = bad depth

-- n values one after another: the first at fault decides
abbrev pub each : (List ℕ → Parsed ℕ) → ℕ → List ℕ → Parsed (List ℕ)
each one zero bytes = got [] 0
each one (suc n) bytes = and_then (one bytes) (λ v size. onto (v ∷ []) size (each one n (drop size bytes)))

-- the kind that puts the codes of its values one after another, and reads them one after another
abbrev pub coded : (ℕ → ℕ → List ℕ) → (ℕ → List ℕ → Parsed ℕ) → Meaning
coded code one =
    record { image = λ w vs. flat_map (code w) vs; parse = λ w n bytes. cond (listed w) (each (one w) n bytes) (bad 0); floor = 0 }

-- one value was read: it fits the width, and took no more bytes than there are
abbrev pub Fitting : ℕ → List ℕ → Parsed ℕ → Type 0
Fitting w bytes (got v size) = (v < 2 ^ w) × (size ≤ length bytes)
Fitting w bytes (short depth) = Unit {0}
Fitting w bytes (bad depth) = Unit {0}

-- the answer of a layer that reads one value so
abbrev pub taken : ℕ → Parsed ℕ → Result Taken Fault
taken layer (got v size) = Ok (record { value = v; size = size })
taken layer (short depth) = Err (fault Short (layer + depth))
taken layer (bad depth) = Err (fault Bad (layer + depth))

-- what makes such a kind lawful
pub record Coding (code : ℕ → ℕ → List ℕ) (one : ℕ → List ℕ → Parsed ℕ) : Type 0 where
  -- where a value's code stands, with any bytes after it, that value is read, and exactly its code is used
  pub reads : (w v : ℕ) (rest : List ℕ) → listed w ≡ true → v < 2 ^ w → one w (code w v ++ rest) ≡ got v (length (code w v))
  -- a code is made of bytes
  pub bytes : (w v : ℕ) → listed w ≡ true → v < 2 ^ w → Bytes (code w v)
  -- whatever is read fits the width
  pub fitting : (w : ℕ) (bs : List ℕ) → listed w ≡ true → Bytes bs → Fitting w bs (one w bs)
