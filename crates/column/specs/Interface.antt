-- What the two calls of a column kind answer, and what they leave in the buffers.
use Rattle.std.specs.Prelude.{◌≡◌, ℕ, ◌+◌, cond, ◌&&◌, List, ◌++◌, length, take, drop, Ok, Err, Result, nat_le}
use Rattle.column.specs.declared.fault.Cause.TheVariants.{Room, Bad}
use Rattle.column.specs.declared.fault.Fault.{Fault}
use Rattle.column.specs.Widths.{listed, below}
use Rattle.column.specs.Parsed.{Parsed, short, bad, fault}
use Rattle.column.specs.Meaning.{Meaning}

-- a list with other elements from a place on
abbrev pub overlaid : ℕ → List ℕ → List ℕ → List ℕ
overlaid place new old = take place old ++ (new ++ drop (place + length new) old)

-- The answer to writing an image at a place of an output of this size: BAD where the width is not listed or a value does not fit it,
-- then ROOM where the image passes the end, else the image's length.
abbrev pub writing : Meaning → ℕ → ℕ → List ℕ → ℕ → ℕ → Result ℕ Fault
writing kind layer w vs size place =
    cond (listed w && below w vs)
    (cond (nat_le (place + length (kind.image w vs)) size) (Ok (length (kind.image w vs))) (Err (fault Room (layer + kind.floor))))
    (Err (fault Bad layer))

-- What a write leaves in the output: accepted, the image at the place and every other byte as it was; refused, every byte before the place as it was.
abbrev pub Written : {E : Type 0} → Result ℕ E → ℕ → List ℕ → List ℕ → List ℕ → Type 0
Written (Ok n) place image old new = new ≡ overlaid place image old
Written (Err e) place image old new = take place new ≡ take place old

-- What reading at a place answers: the bytes from the place on decide; a place past the end is short, and an unlisted width bad before that.
abbrev pub reading : Meaning → ℕ → ℕ → List ℕ → ℕ → Parsed (List ℕ)
reading kind w n input place =
    cond (nat_le place (length input)) (kind.parse w n (drop place input)) (cond (listed w) (short kind.floor) (bad 0))
