-- One child more: what a caller knows before the call, and after it.
use Rattle.std.proofs.Common.{◌≡◌, ℕ, ◌<◌, true, cond, ltb, List, length, get_or, set, Ok, Err, Result, Vec, sym, ap, ◌∙◌, subst, arith}
use Rattle.std.specs.Vec.{with_items}
use Rattle.std.proofs.lemmas.List.{get_or-map}
use Rattle.std.proofs.lemmas.Bool.{cond-true, lt-ltb, and_from}
use Rattle.chain.specs.declared.Chain.{Chain}
use Rattle.chain.specs.declared.Fault.{Fault}
use Rattle.chain.specs.declared.Fault.TheVariants.{Outside}
use Rattle.chain.specs.Chains.{within, longer, adjust, appended}
use Rattle.chain.proofs.Tables.{set-adjust, length-appended}
use Rattle.chain.proofs.Replies.{within-from, accepted}
use Rattle.nodes.specs.Children.{childless, children_at, can_add, with_child}
use Rattle.nodes.proofs.Refill.{refill}

module _ {R : Type 0} (children_of : R → Chain) (table : List R) (r : ℕ) (d : R) (l : r < length table) where
  -- the children of a record of the table
  pub children-at : children_at children_of table r ≡ children_of (get_or table r d)
  children-at = get_or-map children_of table r d childless l

  -- there is room for one more where the place and the last child lie in the table
  pub room-for : (place : ℕ) → 0 < place → place < length table → (children_of (get_or table r d)).last < length table
      → can_add (length table) (children_at children_of table r) r place ≡ true
  room-for place p q h =
      and_from (ltb r (length table)) (within (length table) (children_at children_of table r) place) (lt-ltb r (length table) l)
      (within-from (length table) (children_at children_of table r) place p q (rw children-at h))

  -- .. and then the call is accepted, and leaves the table with the child, as the record that was read has it
  pub child-added : (with_next : R → ℕ → R) (with_children : R → Chain → R) (exit : List R) (place : ℕ) (child : R) (res : Result (Unit {0}) Fault)
      → 0 < place → place < length table → (children_of (get_or table r d)).last < length table
      → res ≡ cond (can_add (length table) (children_at children_of table r) r place) (Ok tt) (Err Outside)
      → exit ≡ cond (can_add (length table) (children_at children_of table r) r place) (with_child with_next with_children table (children_at children_of table r) r place child) table
      → (res ≡ Ok tt) × (exit ≡ with_child with_next with_children table (children_of (get_or table r d)) r place child)
  child-added with_next with_children exit place child res p q h e f =
      let room = room-for place p q h in
      (e ∙ cond-true _ _ _ room, f ∙ cond-true _ _ _ room ∙ ap (λ c. with_child with_next with_children table c r place child) children-at)

-- .. and where the table is a Vec's that was lent as a slice, the Vec has the child then
pub child-lent : {R Z : Type 0} (children_of : R → Chain) (d : R) (with_next : R → ℕ → R) (with_children : R → Chain → R) (v : Vec R Z) (lent exit : List R) (r place : ℕ) (child made : R) (res : Result (Unit {0}) Fault)
    → lent ≡ v.items → length exit ≡ length lent → child ≡ made → r < length v.items → 0 < place → place < length v.items → (children_of (get_or v.items r d)).last < length v.items
    → res ≡ cond (can_add (length lent) (children_at children_of lent r) r place) (Ok tt) (Err Outside)
    → exit ≡ cond (can_add (length lent) (children_at children_of lent r) r place) (with_child with_next with_children lent (children_at children_of lent r) r place child) lent
    → (with_items v exit).items ≡ with_child with_next with_children v.items (children_of (get_or v.items r d)) r place made
child-lent children_of d with_next with_children v lent exit r place child made res is k same l p q h e f =
    let size = ap length is in
    let last = ap (λ ns. (children_of (get_or ns r d)).last) is in
    let added = child-added children_of lent r d (omega (arith, size, l)) with_next with_children exit place child res p (omega (arith, size, q)) (omega (arith, size, last, h)) e f in
    refill (λ ns. with_child with_next with_children ns (children_of (get_or ns r d)) r place child) v exit lent k is added.1
    ∙ ap (with_child with_next with_children v.items (children_of (get_or v.items r d)) r place) same

-- the record and its link are written, and then the longer chain of r's children
pub added : {R : Type 0} (with_next : R → ℕ → R) (with_children : R → Chain → R) (table exit : List R) (children at long : Chain) (r place : ℕ) (child d fresh : R) (res : Result Chain Fault)
    → r < length table → children ≡ at
    → res ≡ cond (within (length table) children place) (Ok (longer children place)) (Err Outside) → res ≡ Ok long
    → exit ≡ cond (within (length table) children place) (appended with_next table children.last place child) table
    → fresh ≡ with_children (get_or exit r d) long
    → set exit r fresh ≡ cond (can_add (length table) at r place) (with_child with_next with_children table at r place child) table
added with_next with_children table exit children at long r place child d fresh res l same e ok f g =
    let a = accepted (within (length table) children place) (longer children place) long res e ok in
    let full : exit ≡ appended with_next table children.last place child = f ∙ cond-true _ _ _ a.0 in
    let size : length exit ≡ length table = ap length full ∙ length-appended with_next table children.last place child in
    let room : can_add (length table) children r place ≡ true = and_from (ltb r (length table)) (within (length table) children place) (lt-ltb r (length table) l) a.0 in
    let P : Chain → Type 0 = λ c. set exit r fresh ≡ cond (can_add (length table) c r place) (with_child with_next with_children table c r place child) table in
    subst P same
    (ap (set exit r) (g ∙ ap (with_children (get_or exit r d)) a.1)
    ∙ set-adjust (λ x. with_children x (longer children place)) exit r d (omega (arith, size))
    ∙ ap (adjust (λ x. with_children x (longer children place)) r) full
    ∙ sym (cond-true _ _ _ room))
