-- What a column kind means, and the laws that every kind keeps.
use Rattle.std.specs.Prelude.{◌≡◌, ℕ, ◌≤◌, true, false, List, [], ◌++◌, length}
use Rattle.column.specs.Widths.{listed, Below, Bytes}
use Rattle.column.specs.Parsed.{Parsed, got, short, bad}

-- A kind's meaning: the bytes of each list of values of a width; what reading so many values of a width answers where these bytes stand;
-- and how many layers down a place past the end, or a want of room, is found.
pub record Meaning : Type 0 where
  pub image : ℕ → List ℕ → List ℕ
  pub parse : ℕ → ℕ → List ℕ → Parsed (List ℕ)
  pub floor : ℕ

-- reading n values gave n values of the width, from no more bytes than there are
abbrev pub Yields : ℕ → ℕ → List ℕ → Parsed (List ℕ) → Type 0
Yields w n bytes (got vs used) = (length vs ≡ n) × Below w vs × (used ≤ length bytes)
Yields w n bytes (short depth) = Unit {0}
Yields w n bytes (bad depth) = Unit {0}

pub record Lawful (kind : Meaning) : Type 0 where
  -- the empty list has the empty image
  pub empty : (w : ℕ) → listed w ≡ true → kind.image w [] ≡ []
  -- where the image of n values stands, with any bytes after it, reading n values gives them and uses exactly their image
  pub reads : (w : ℕ) (vs rest : List ℕ) → listed w ≡ true → Below w vs → kind.parse w (length vs) (kind.image w vs ++ rest) ≡ got vs (length (kind.image w vs))
  -- an image is made of bytes
  pub bytes : (w : ℕ) (vs : List ℕ) → listed w ≡ true → Below w vs → Bytes (kind.image w vs)
  -- whatever is read has the number and the width that were asked for
  pub yields : (w n : ℕ) (bs : List ℕ) → Bytes bs → Yields w n bs (kind.parse w n bs)
  -- a width that is not listed is bad, before all else, and the kind itself finds it
  pub unlisted : (w n : ℕ) (bs : List ℕ) → listed w ≡ false → kind.parse w n bs ≡ bad 0
