-- The tables keep their lengths.
use Rattle.std.proofs.Common.{◌≡◌, ℕ, Bool, true, false, cond, eqb, length, Option, refl, ap, ◌∙◌, length-set}
use Rattle.std.proofs.Math.Nat.{ℕ_set}
use Rattle.std.specs.declared.option.Option.TheVariants as options
use Rattle.nodes.specs.Marks.{family_of}
use Rattle.de.specs.Moves.{Sheets, node, spawned, grown, replaced, advanced}
use Rattle.de.specs.Viewed.{View}
use Rattle.de.specs.Served.{Spared, SameLengths}
use Rattle.de.specs.declared.records.Node.{Node}
use Rattle.de.specs.declared.columns.Gain.{Gain}
use Rattle.de.specs.Taken.{columns_with, children_with, stepped, brought_in, taken_in, occurrences, branched}
use Rattle.de.proofs.Growing.{length-spawned, length-grown, grown-rest}

-- equal tables are as long
pub lengths_same : (T T' : Sheets) → T' ≡ T → SameLengths T T'
lengths_same T T' e = record { nodes = ap (λ U. length U.nodes) e; slots = ap (λ U. length U.slots) e }

-- one change after another
pub lengths_trans : {T U V : Sheets} → SameLengths T U → SameLengths U V → SameLengths T V
lengths_trans a b = record { nodes = b.nodes ∙ a.nodes; slots = b.slots ∙ a.slots }

-- tables of which only slots that are not taken change
pub lengths_spared : {T T' : Sheets} → Spared T T' → SameLengths T T'
lengths_spared s = record { nodes = ap length s.nodes; slots = s.size }

-- two proofs of it are one
pub lengths-prop : (T T' : Sheets) → IsProp (SameLengths T T')
lengths-prop T T' a b = λ i. record { nodes = ℕ_set _ _ a.nodes b.nodes i; slots = ℕ_set _ _ a.slots b.slots i }

-- a new child
lengths_spawned : (r i n : ℕ) (T : Sheets) → SameLengths T (spawned r i n T)
lengths_spawned r i n T = record { nodes = length-spawned r i n T; slots = refl }

-- new children
lengths_grown : (r m n : ℕ) (T : Sheets) → SameLengths T (grown r m n T)
lengths_grown r m n T = record { nodes = length-grown r m n T; slots = grown-rest (λ U. length U.slots) (λ a i c U. refl) r m n T }

-- another record
lengths_replaced : (r : ℕ) (x : Node) (T : Sheets) → SameLengths T (replaced r x T)
lengths_replaced r x T = record { nodes = length-set T.nodes r x; slots = refl }

-- what reading columns brings
lengths_brought : (r : ℕ) (x : Node) (o : Option Gain) (T : Sheets) → SameLengths T (brought_in r x o T)
lengths_brought r x options.None T = lengths_same T T refl
lengths_brought r x (options.Some g) T =
    let used : Sheets = advanced g.spot.taken g.spot.place (columns_with x.mark) T in
    let grows = lengths_grown r (family_of x.mark) (children_with x.mark x.count g.sum) used in
    record { nodes = grows.nodes; slots = grows.slots }

-- an answer is taken
pub lengths_taken : (r : ℕ) (v : View) (letters : ℕ) (T : Sheets) → SameLengths T (taken_in r v letters T)
lengths_taken r v letters T = lengths_trans (lengths_replaced r (stepped letters v.node) T) (lengths_brought r v.node v.gain (replaced r (stepped letters v.node) T))

-- a new index gets a record
pub lengths_branched : (r k : ℕ) (o : Option ℕ) (T : Sheets) → SameLengths T (branched r k o T)
lengths_branched r k options.None T = lengths_same T T refl
lengths_branched r k (options.Some i) T = go (eqb k 0)
  where
    go : (b : Bool) → SameLengths T (cond b (spawned r i (occurrences T (node T r) i) T) T)
    go true = lengths_spawned r i (occurrences T (node T r) i) T
    go false = lengths_same T T refl
