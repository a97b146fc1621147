-- Marks: the kinds of nodes, as the code has them.
use Rattle.std.specs.Prelude.{ℕ, ◌+◌, List, [], ◌∷◌}
use Rattle.document.specs.declared.scalars.Scalar.TheVariants as scalars
use Rattle.document.specs.Calls.{Value, kind, Kind, SCALAR, TEXT, SEQ, MAP, ENUM, UNIT, TUPLE}
use Rattle.document.specs.Verdict.{scalar_number}
use Rattle.nodes.specs.declared.marks.Mark.{Mark}
use Rattle.nodes.specs.declared.marks.Mark.TheVariants as marks

-- marks by number, each its own: none is 0, and a kind's comes after the number that the definitions give it
abbrev pub mark_number : Mark → ℕ
mark_number marks.Unmarked = 0
mark_number (marks.Scalar k) = 1 + scalar_number k
mark_number marks.Text = 11
mark_number marks.Seq = 12
mark_number marks.Map = 13
mark_number marks.Enum = 14
mark_number marks.Unit = 15
mark_number (marks.Tuple n) = 16 + n

-- the mark of unsigned numbers in place of signed ones of the same width: a reader reads them alike
abbrev pub unsigned : Mark → Mark
unsigned (marks.Scalar scalars.I8) = marks.Scalar scalars.U8
unsigned (marks.Scalar scalars.I16) = marks.Scalar scalars.U16
unsigned (marks.Scalar scalars.I32) = marks.Scalar scalars.U32
unsigned (marks.Scalar scalars.I64) = marks.Scalar scalars.U64
unsigned m = m

-- how many children come with a mark
abbrev pub family_of : Mark → ℕ
family_of marks.Unmarked = 0
family_of (marks.Scalar k) = 0
family_of marks.Text = 0
family_of marks.Seq = 1
family_of marks.Map = 2
family_of marks.Enum = 0
family_of marks.Unit = 0
family_of (marks.Tuple n) = n

-- a kind's mark
abbrev pub mark_of : Kind → Mark
mark_of (SCALAR k) = marks.Scalar k
mark_of TEXT = marks.Text
mark_of SEQ = marks.Seq
mark_of MAP = marks.Map
mark_of ENUM = marks.Enum
mark_of UNIT = marks.Unit
mark_of (TUPLE n) = marks.Tuple n

-- the mark of a node with these values
abbrev pub mark_at : List Value → Mark
mark_at [] = marks.Unmarked
mark_at (v ∷ vs) = mark_of (kind v)
