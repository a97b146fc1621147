-- A node as a question finds it.
use Rattle.std.specs.Prelude.{◌≡◌, ℕ, ◌+◌, ◌^◌, ◌<◌, ◌≤◌, Bool, true, false, cond, List, length, Option, Ok, Err, Result}
use Rattle.std.specs.declared.option.Option.TheVariants as options
use Rattle.column.specs.Meaning.{Meaning}
use Rattle.document.specs.declared.refusals.Refusal.{Refusal}
use Rattle.document.specs.declared.refusals.Refusal.TheVariants as refusals
use Rattle.document.specs.Calls.{Kind, Cell}
use Rattle.document.specs.Fetch.{Supply, Fetched, fetched, denied, fetch}
use Rattle.document.specs.Reader.{kin}
use Rattle.nodes.specs.declared.marks.Mark.{Mark}
use Rattle.nodes.specs.Marks.{mark_of, family_of}
use Rattle.de.specs.declared.records.Node.{Node}
use Rattle.de.specs.declared.columns.Spot.{Spot}
use Rattle.de.specs.declared.columns.Gain.{Gain}
use Rattle.de.specs.declared.view.Sight.{Sight}
use Rattle.de.specs.Columns.{usable, Within, left_at, CellsStored}
use Rattle.de.specs.Moves.{Sheets, node, is_fresh, lacks_nodes}

-- how far the tables are used
abbrev pub spot_of : Sheets → Spot
spot_of T = record { taken = T.taken; place = T.place }

-- what looking at r asks of the tables: bounds alone
pub record LookSafe (input : List ℕ) (T : Sheets) (r : ℕ) : Type 0 where
  pub within : r < length T.nodes
  pub taken : T.taken ≤ usable (length T.slots)
  pub place : T.place ≤ length input
  pub columns : T.columns + 3 < 2 ^ 32

-- a record with another mark
abbrev pub remarked : Mark → Node → Node
remarked m x = record x { mark = m }

-- a node whose columns are read: its record, and what reading them came to if that was just now
pub record View : Type 0 where
  pub node : Node
  pub gain : Option Gain

-- a node that was read before, as this kind now
abbrev pub known : Mark → Node → View
known m x = record { node = remarked m x; gain = options.None }

-- a node that was read just now: its values stand from the first free slot on, its texts behind its numbers
abbrev pub found : Sheets → Mark → Node → Gain → View
found T m x g =
    record {
      node = record x { mark = m; done = 0; first = T.taken; text = g.text };
      gain = options.Some g;
    }

-- the record r with this mark, once its columns are read, which came to this if it was just now
abbrev pub viewed : Sheets → ℕ → Mark → Option Gain → View
viewed T r m options.None = known m (node T r)
viewed T r m (options.Some g) = found T m (node T r) g

-- .. if it was not refused
abbrev pub views : Sheets → ℕ → Mark → Result (Option Gain) Refusal → Result View Refusal
views T r m (Ok g) = Ok (viewed T r m g)
views T r m (Err e) = Err e

-- what is heard of a record
abbrev pub sight : Node → Sight
sight x = record { count = x.count; done = x.done; first = x.first; text = x.text }

-- how far reading came then: nowhere if the node was read before
abbrev pub reached : Spot → Option Gain → Spot
reached spot options.None = spot
reached spot (options.Some g) = g.spot

-- what was read of a node, and the view of it: reading went on from where the tables are used to another spot, and the cells stand in the slots
pub record Finds (input : List ℕ) (T : Sheets) (slots : List ℕ) (K : Kind) (x : Node) (cs : List Cell) (u : Supply) (v : View) : Type 0 where
  pub gain : Gain
  pub is : v ≡ found T (mark_of K) x gain
  pub left : u ≡ left_at (usable (length T.slots)) input gain.spot
  pub within : Within (usable (length T.slots)) input gain.spot
  pub taken : T.taken ≤ gain.spot.taken
  pub place : T.place ≤ gain.spot.place
  pub stored : CellsStored K x.count slots (spot_of T) gain cs

-- the code answers as the definition does: with its refusal, or with something that tells what was read
abbrev pub Answers : {X R : Type 0} → (X → Supply → R → Type 0) → Fetched X → Result R Refusal → Type 0
Answers Tells (fetched x u) (Ok r) = Tells x u r
Answers Tells (fetched x u) (Err e) = ⊥
Answers Tells (denied d) (Ok r) = ⊥
Answers Tells (denied d) (Err e) = e ≡ d

-- looking at a record: whether it was read before, and whether records lack for what its kind brings
abbrev pub LooksAs : Meaning → List ℕ → Sheets → List ℕ → Kind → Node → Bool → Bool → Result View Refusal → Type 0
LooksAs col input T slots K x true true res = res ≡ Err refusals.Nodes
LooksAs col input T slots K x true false res = Answers (Finds input T slots K x) (fetch col T.columns K x.count (left_at (usable (length T.slots)) input (spot_of T))) res
LooksAs col input T slots K x false b res = (J : Kind) → x.mark ≡ mark_of J → res ≡ cond (kin J K) (Ok (known (mark_of K) x)) (Err refusals.Kind)

-- looking at the record r as a node of this kind, with these slots afterwards
abbrev pub Looks : Meaning → List ℕ → Sheets → List ℕ → ℕ → Kind → Result View Refusal → Type 0
Looks col input T slots r K res = LooksAs col input T slots K (node T r) (is_fresh (node T r)) (lacks_nodes T (family_of (mark_of K))) res
