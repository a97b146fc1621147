-- Calls: what a document is made of.
use Rattle.std.specs.Prelude.{ℕ, ◌+◌, List, [], ◌∷◌, length}
use Rattle.document.specs.declared.scalars.Scalar.{Scalar}
use Rattle.document.specs.declared.scalars.Scalar.TheVariants.{Bool, U8, U16, U32, U64, I8, I16, I32, I64, F32}

-- the width of a number's column
abbrev pub width : Scalar → ℕ
width Bool = 1
width U8 = 8
width U16 = 16
width U32 = 32
width U64 = 64
width I8 = 8
width I16 = 16
width I32 = 32
width I64 = 64
width F32 = 32

-- a value: a number by its bits, a text by its bytes, a unit, an option, a variant by its index, a seq, map or tuple by its length
pub data Value : Type 0 where
  scalar : Scalar → ℕ → Value
  text : List ℕ → Value
  unit none some : Value
  variant seq map tuple : ℕ → Value

-- a call: a value, or the end of a seq, map or tuple
pub data Call : Type 0 where
  val : Value → Call
  end : Call

-- ---- kinds

-- what the first call at a node marks it as: one kind for each kind of number, and for tuples of each length
pub data Kind : Type 0 where
  SCALAR : Scalar → Kind
  TEXT SEQ MAP ENUM UNIT : Kind
  TUPLE : ℕ → Kind

-- the kind that a value marks its node as
abbrev pub kind : Value → Kind
kind (scalar k b) = SCALAR k
kind (text bs) = TEXT
kind unit = UNIT
kind none = ENUM
kind some = ENUM
kind (variant i) = ENUM
kind (seq n) = SEQ
kind (map n) = MAP
kind (tuple n) = TUPLE n

-- what a node keeps of a call: a number (bits, index or length) or the bytes of a text
pub data Cell : Type 0 where
  number : ℕ → Cell
  letters : List ℕ → Cell

-- what a node keeps of a value
abbrev pub cell : Value → Cell
cell (scalar k b) = number b
cell (text bs) = letters bs
cell unit = number 0
cell none = number 0
cell some = number 1
cell (variant i) = number i
cell (seq n) = number n
cell (map n) = number n
cell (tuple n) = number n

-- a cell as a number: a text's is its length
abbrev pub num : Cell → ℕ
num (number n) = n
num (letters bs) = length bs

-- the letters of a cell, none for a number
abbrev pub str : Cell → List ℕ
str (number n) = []
str (letters bs) = bs

-- the length that a value brings to its node's sum of lengths
abbrev pub extent : Value → ℕ
extent (scalar k b) = 0
extent (text bs) = length bs
extent unit = 0
extent none = 0
extent some = 0
extent (variant i) = 0
extent (seq n) = n
extent (map n) = n
extent (tuple n) = 0

-- what the elements come to together
abbrev pub total : {X : Type 0} → (X → ℕ) → List X → ℕ
total f [] = 0
total f (x ∷ xs) = f x + total f xs
