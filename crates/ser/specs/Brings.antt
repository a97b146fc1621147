-- What a call brings to the node at which its value stands.
use Rattle.std.specs.Prelude.{◌≡◌, ℕ, Bool, true, false, List, [], length, Option, ◌==◌}
use Rattle.std.specs.declared.option.Option.TheVariants as options
use Rattle.document.specs.Calls.{Value, scalar, text, unit, none, some, variant, seq, map, tuple, kind, Call, val, end}
use Rattle.document.specs.Tables.{length_cells}
use Rattle.nodes.specs.declared.marks.Mark.{Mark}
use Rattle.nodes.specs.declared.marks.Mark.TheVariants.{Unmarked}
use Rattle.nodes.specs.Marks.{mark_of}
use Rattle.ser.specs.declared.loads.Load.{Load}

-- the value that a call says; `end` says none, and takes what a unit takes: nothing
abbrev pub value_in : Call → Value
value_in (val v) = v
value_in end = unit

-- what it marks its node as
abbrev pub marking : Call → Mark
marking (val v) = mark_of (kind v)
marking end = Unmarked

-- a number or an index adds nothing to the node's sum of lengths
abbrev pub number_load : ℕ → Load
number_load b = record { value = b; extent = 0 }

-- a length adds itself
abbrev pub length_load : ℕ → Load
length_load n = record { value = n; extent = n }

-- what the node keeps of a value
abbrev pub load_of : Value → Option Load
load_of (scalar k b) = options.Some (number_load b)
load_of (text bs) = options.Some (length_load (length bs))
load_of unit = options.None
load_of none = options.Some (number_load 0)
load_of some = options.Some (number_load 1)
load_of (variant i) = options.Some (number_load i)
load_of (seq n) = options.Some (length_load n)
load_of (map n) = options.Some (length_load n)
load_of (tuple n) = options.None

-- what it keeps of a call
abbrev pub loading : Call → Option Load
loading (val v) = load_of v
loading end = options.None

-- the cells that a load takes: one, and a second one for a long length
abbrev pub load_cells : Option Load → ℕ
load_cells options.None = 0
load_cells (options.Some x) = length_cells x.extent

-- what it adds to the node's sum of lengths
abbrev pub load_extent : Option Load → ℕ
load_extent options.None = 0
load_extent (options.Some x) = x.extent

-- the index whose child the value that follows stands at
abbrev pub index_of : Value → Option ℕ
index_of (scalar k b) = options.None
index_of (text bs) = options.None
index_of unit = options.None
index_of none = options.Some 0
index_of some = options.Some 1
index_of (variant i) = options.Some i
index_of (seq n) = options.None
index_of (map n) = options.None
index_of (tuple n) = options.None

-- .. of a call
abbrev pub branching : Call → Option ℕ
branching (val v) = index_of v
branching end = options.None

-- the letters that a call brings
abbrev pub letters_in : Call → List ℕ
letters_in (val (scalar k b)) = []
letters_in (val (text bs)) = bs
letters_in (val unit) = []
letters_in (val none) = []
letters_in (val some) = []
letters_in (val (variant i)) = []
letters_in (val (seq n)) = []
letters_in (val (map n)) = []
letters_in (val (tuple n)) = []
letters_in end = []

-- a `tuple 1`, which marks nothing
abbrev pub is_lone : Call → Bool
is_lone (val (scalar k b)) = false
is_lone (val (text bs)) = false
is_lone (val unit) = false
is_lone (val none) = false
is_lone (val some) = false
is_lone (val (variant i)) = false
is_lone (val (seq n)) = false
is_lone (val (map n)) = false
is_lone (val (tuple n)) = n == 1
is_lone end = false

-- a call that opens a place
abbrev pub is_opening : Call → Bool
is_opening (val (scalar k b)) = false
is_opening (val (text bs)) = false
is_opening (val unit) = false
is_opening (val none) = false
is_opening (val some) = true
is_opening (val (variant i)) = true
is_opening (val (seq n)) = true
is_opening (val (map n)) = true
is_opening (val (tuple n)) = true
is_opening end = false

-- a call brings this mark, this load and this index, and is no `tuple 1`
abbrev pub Brings : Call → Mark → Option Load → Option ℕ → Type 0
Brings c m x i = (m ≡ marking c) × (x ≡ loading c) × (i ≡ branching c) × (is_lone c ≡ false)
