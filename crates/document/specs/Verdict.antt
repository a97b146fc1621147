-- The writer's verdict on the next call, and the lists that it accepts.
use Rattle.std.specs.Prelude.{◌≡◌, ℕ, ◌+◌, ◌^◌, ◌<◌, Bool, false, cond, not, ◌&&◌, ◌||◌, List, [], ◌∷◌, ◌++◌, Ok, Err, Result, ◌==◌, nat_le, nat_lt}
use Rattle.utf8.specs.Passes.{passes}
use Rattle.document.specs.declared.scalars.Scalar.{Scalar}
use Rattle.document.specs.declared.scalars.Scalar.TheVariants as scalars
use Rattle.document.specs.declared.refusals.Refusal.{Refusal}
use Rattle.document.specs.declared.refusals.Refusal.TheVariants as refusals
use Rattle.document.specs.Calls.{width, total, extent, Kind, SCALAR, TEXT, SEQ, MAP, ENUM, UNIT, TUPLE, Value, scalar, text, unit, none, some, variant, seq, map, tuple, kind, cell, num, str, Call, val, end}
use Rattle.document.specs.Entries.{Entry, at}
use Rattle.document.specs.Places.{Turn, stays, goes, turn, start}
use Rattle.document.specs.Trace.{trace, places_after}
use Rattle.document.specs.Columns.{limit}
use Rattle.document.specs.Tables.{cells_of, records_of, letters_of, usable_nodes, usable_cells, usable_text}

-- the lengths of the writer's three tables: node records, cell records and text bytes
pub record Sizes : Type 0 where
  pub nodes : ℕ
  pub cells : ℕ
  pub text : ℕ

-- kinds by number, each its own
abbrev pub scalar_number : Scalar → ℕ
scalar_number scalars.Bool = 0
scalar_number scalars.U8 = 1
scalar_number scalars.U16 = 2
scalar_number scalars.U32 = 3
scalar_number scalars.U64 = 4
scalar_number scalars.I8 = 5
scalar_number scalars.I16 = 6
scalar_number scalars.I32 = 7
scalar_number scalars.I64 = 8
scalar_number scalars.F32 = 9

-- kinds by number, each its own
abbrev pub kind_number : Kind → ℕ
kind_number (SCALAR k) = scalar_number k
kind_number TEXT = 10
kind_number SEQ = 11
kind_number MAP = 12
kind_number ENUM = 13
kind_number UNIT = 14
kind_number (TUPLE n) = 15 + n

-- whether the test holds of an element
abbrev pub any_of : {X : Type 0} → (X → Bool) → List X → Bool
any_of test [] = false
any_of test (x ∷ xs) = test x || any_of test xs

-- a value of another kind than the first at its node
abbrev pub strange : List Value → Value → Bool
strange [] v = false
strange (first ∷ vs) v = not (kind_number (kind first) == kind_number (kind v))

-- whether an entry is of another kind than its node
abbrev pub clash : List Entry → Entry → Bool
clash ts e = strange (at e.node ts) e.said

-- an index above 255
abbrev pub high_index : Value → Bool
high_index v = kind_number (kind v) == kind_number ENUM && nat_lt 255 (num (cell v))

-- a text that is not well-formed
abbrev pub ill_formed : Value → Bool
ill_formed v = kind_number (kind v) == kind_number TEXT && not (passes (str (cell v)))

-- the lengths at an entry's node come to the limit
abbrev pub too_long : List Entry → Entry → Bool
too_long ts e = nat_le limit (total extent (at e.node ts))

-- the first refusal whose test holds, or acceptance
abbrev pub first_of : List (Bool × Refusal) → Result (Unit {0}) Refusal
first_of [] = Ok tt
first_of (t ∷ ts) = cond t.0 (Err t.1) (first_of ts)

-- a value call whose entries are es, after those of ts
abbrev pub weighed : Sizes → List Entry → Value → List Entry → Result (Unit {0}) Refusal
weighed sizes ts v es =
    first_of
    ((any_of (clash ts) es, refusals.Kind)
    ∷ (high_index v, refusals.Index)
    ∷ (nat_lt (usable_nodes sizes.nodes) (1 + records_of (ts ++ es)), refusals.Nodes)
    ∷ (nat_lt (usable_cells sizes.cells) (cells_of (ts ++ es)), refusals.Cells)
    ∷ (any_of (too_long (ts ++ es)) es, refusals.Sum)
    ∷ (ill_formed v, refusals.Text)
    ∷ (nat_lt (usable_text sizes.text) (letters_of (ts ++ es)), refusals.TextTable)
    ∷ []
    )

-- what a turn and a weighing come to
abbrev pub judged : Sizes → List Entry → Call → Turn → Result (Unit {0}) Refusal
judged sizes ts c (stays r) = Err r
judged sizes ts (val v) (goes es gs) = weighed sizes ts v es
judged sizes ts end (goes es gs) = Ok tt

-- the verdict on a call after a list of accepted calls
abbrev pub verdict : Sizes → List Call → Call → Result (Unit {0}) Refusal
verdict sizes cs c = judged sizes (trace start cs) c (turn (places_after start cs) c)

-- a call that can be made: a number fits its width
abbrev pub Real : Call → Type 0
Real (val (scalar k b)) = b < 2 ^ width k
Real (val (text bs)) = Unit {0}
Real (val unit) = Unit {0}
Real (val none) = Unit {0}
Real (val some) = Unit {0}
Real (val (variant i)) = Unit {0}
Real (val (seq n)) = Unit {0}
Real (val (map n)) = Unit {0}
Real (val (tuple n)) = Unit {0}
Real end = Unit {0}

-- each call can be made, and was accepted after those before it
abbrev pub AcceptedAfter : Sizes → List Call → List Call → Type 0
AcceptedAfter sizes done [] = Unit {0}
AcceptedAfter sizes done (c ∷ cs) = Real c × (verdict sizes done c ≡ Ok tt) × AcceptedAfter sizes (done ++ c ∷ []) cs

-- an accepted list
abbrev pub Accepted : Sizes → List Call → Type 0
Accepted sizes cs = AcceptedAfter sizes [] cs

-- no place is open
abbrev pub Done : List Call → Type 0
Done cs = places_after start cs ≡ []
