-- The children of a record.
use Rattle.std.specs.Prelude.{ℕ, Bool, ◌&&◌, cond, List, [], ◌∷◌, map, length, ◌==◌, nat_lt, slice_index, slice_index_or, slice_set}
use Rattle.chain.specs.declared.Chain.{Chain}
use Rattle.chain.specs.Chains.{within, longer, adjust, appended}

-- the first of these records that has the index, by each record's index; 0 where there is none
abbrev pub seek : List ℕ → ℕ → List ℕ → ℕ
seek indices i [] = 0
seek indices i (k ∷ ks) = cond (slice_index indices k == i) k (seek indices i ks)

-- the table with this record at place 1, if it has that place
abbrev pub rooted : {R : Type 0} → List R → R → List R
rooted table root = cond (nat_lt 1 (length table)) (slice_set table 1 root) table

-- the chain of no record
abbrev pub childless : Chain
childless = record { first = 0; last = 0 }

-- the chain of the children of r, of no record outside the table
abbrev pub children_at : {R : Type 0} → (R → Chain) → List R → ℕ → Chain
children_at children_of table r = slice_index_or (map children_of table) r childless

-- in a table of n records, r is one, and so is the place of one more child, which is not 0, and the last of these children
abbrev pub can_add : ℕ → Chain → ℕ → ℕ → Bool
can_add n children r place = nat_lt r n && within n children place

-- the table with the new record at this place, as the last child of r, which has these children
abbrev pub with_child : {R : Type 0} → (R → ℕ → R) → (R → Chain → R) → List R → Chain → ℕ → ℕ → R → List R
with_child with_next with_children table children r place child =
    adjust (λ x. with_children x (longer children place)) r (appended with_next table children.last place child)
