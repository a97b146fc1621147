-- Reading a node's columns into a table of slots: how far it came, and what stands in the slots then.
use Rattle.std.specs.Prelude.{◌≡◌, ℕ, ◌+◌, ◌-◌, ◌^◌, ◌<◌, ◌≤◌, min, List, map as each, length, take, drop, Ok, Err, Result, MatchResult}
use Rattle.std.specs.List.{AllByRecursion}
use Rattle.column.specs.declared.fault.Fault.{Fault}
use Rattle.document.specs.declared.refusals.Refusal.{Refusal}
use Rattle.document.specs.Refusals.{of_fault}
use Rattle.document.specs.Calls.{total, Kind, SCALAR, TEXT, SEQ, MAP, ENUM, UNIT, TUPLE, Cell, num, str}
use Rattle.document.specs.Columns.{sum}
use Rattle.document.specs.Fetch.{Supply, supply, Fetched, fetched, denied, columns_of}
use Rattle.de.specs.declared.columns.Spot.{Spot}
use Rattle.de.specs.declared.columns.Gain.{Gain}

-- a column's answer, with the column's number in its refusal
abbrev pub numbered : ℕ → Result ℕ Fault → Result ℕ Refusal
numbered column (Ok n) = Ok n
numbered column (Err f) = Err (of_fault f column)

-- ---- how far reading came

-- how many slots of a table can be used
abbrev pub usable : ℕ → ℕ
usable size = min size 1048576

-- a spot lies within the slots that can be used, and within the input
pub record Within (room : ℕ) (input : List ℕ) (spot : Spot) : Type 0 where
  pub taken : spot.taken ≤ room
  pub place : spot.place ≤ length input

-- .. and three columns more can be counted
pub record ReadSafe (size : ℕ) (input : List ℕ) (column : ℕ) (spot : Spot) : Type 0 where
  pub within : Within (usable size) input spot
  pub columns : column + 3 < 2 ^ 32

-- what is left at a spot
abbrev pub left_at : ℕ → List ℕ → Spot → Supply
left_at room input spot = supply (room - spot.taken) (drop spot.place input)

-- what is told is that something was read, of which this holds, from one spot up to another
pub record Reads {X : Type 0} (room : ℕ) (input : List ℕ) (spot next : Spot) (told : Fetched X) (Holds : X → Type 0) : Type 0 where
  pub what : X
  pub is : told ≡ fetched what (left_at room input next)
  pub within : Within room input next
  pub taken : spot.taken ≤ next.taken
  pub place : spot.place ≤ next.place
  pub holds : Holds what

-- reading from a spot on answers what the definition tells there: what was read, of which this holds, or the refusal
abbrev pub ReadAs : {X : Type 0} → (Supply → Fetched X) → (Gain → X → Type 0) → ℕ → List ℕ → Spot → Result Gain Refusal → Type 0
ReadAs tell Holds size input spot result =
    let told = tell (left_at (usable size) input spot) in
    MatchResult result (λ gain. Reads (usable size) input spot gain.spot told (Holds gain)) (λ refusal. told ≡ denied refusal)

-- the slots before a spot are as they were
abbrev pub KeepsBefore : Spot → List ℕ → List ℕ → Type 0
KeepsBefore spot old new = take spot.taken new ≡ take spot.taken old

-- ---- what the slots hold then

-- these are n values, and they stand in the first of the slots that were taken between two spots
pub record Stored (n : ℕ) (slots : List ℕ) (spot next : Spot) (values : List ℕ) : Type 0 where
  pub count : length values ≡ n
  pub taken : spot.taken + n ≤ next.taken
  pub stand : take n (drop spot.taken slots) ≡ values

-- a column's numbers, which take all these slots, and none of which is a length; texts would begin behind them
abbrev pub NumbersStored : ℕ → List ℕ → Spot → Gain → List ℕ → Type 0
NumbersStored n slots spot gain ns = Stored n slots spot gain.spot ns × (gain.spot.taken ≡ spot.taken + n) × (gain.sum ≡ 0) × (gain.text ≡ gain.spot.place)

-- a node's lengths, and their sum; texts would begin behind them
abbrev pub LengthsStored : ℕ → List ℕ → Spot → Gain → List ℕ → Type 0
LengthsStored n slots spot gain ns = Stored n slots spot gain.spot ns × (gain.sum ≡ sum ns) × (gain.text ≡ gain.spot.place)

-- the lengths of a node's texts, and their sum: so many bytes are the texts'
pub record TextsStored (n : ℕ) (slots : List ℕ) (spot : Spot) (gain : Gain) (ts : List (List ℕ)) : Type 0 where
  pub stored : Stored n slots spot gain.spot (each length ts)
  pub sum-is : gain.sum ≡ sum (each length ts)
  pub text : gain.text + gain.sum ≡ gain.spot.place

-- the sum of a node's lengths, 0 where its values have none
abbrev pub lengths_of : Kind → List Cell → ℕ
lengths_of (SCALAR k) cs = 0
lengths_of TEXT cs = total num cs
lengths_of SEQ cs = total num cs
lengths_of MAP cs = total num cs
lengths_of ENUM cs = 0
lengths_of UNIT cs = 0
lengths_of (TUPLE n) cs = 0

-- a node's n cells: the numbers of a kind with columns, and the sum of lengths; a text's number is its length, and so many bytes are the texts'
pub record CellsStored (K : Kind) (n : ℕ) (slots : List ℕ) (spot : Spot) (gain : Gain) (cs : List Cell) : Type 0 where
  pub count : length cs ≡ n
  pub stored : 0 < columns_of K → Stored n slots spot gain.spot (each num cs)
  pub sum-is : gain.sum ≡ lengths_of K cs
  pub letters : K ≡ TEXT → AllByRecursion (λ c. num c ≡ length (str c)) cs
  pub text : K ≡ TEXT → gain.text + gain.sum ≡ gain.spot.place
