-- Records that are read, changed and added.
use Rattle.std.proofs.Common.{◌≡◌, ℕ, ◌<◌, cond, List, length, get_or, set, Ok, Err, Result, ap, ◌∙◌}
use Rattle.std.proofs.lemmas.Bool.{cond-true}
use Rattle.chain.specs.declared.Chain.{Chain}
use Rattle.chain.specs.declared.Fault.{Fault}
use Rattle.chain.specs.declared.Fault.TheVariants.{Outside}
use Rattle.chain.specs.Chains.{adjust, appended, longer, within}
use Rattle.chain.proofs.Tables.{set-adjust}
use Rattle.chain.proofs.Replies.{within-from}

-- a record that was read and is written changed is one that is put through the change
pub set-read : {X : Type 0} (f : X → X) (xs : List X) (i : ℕ) (x : X) → x ≡ get_or xs i x → i < length xs → set xs i (f x) ≡ adjust f i xs
set-read f xs i x e h = ap (λ y. set xs i (f y)) e ∙ set-adjust f xs i x h

-- an append within the table is accepted
pub record-added : {R : Type 0} (with_next : R → ℕ → R) (table exit : List R) (chain : Chain) (place : ℕ) (fresh : R) (res : Result Chain Fault)
    → 0 < place → place < length table → chain.last < length table
    → res ≡ cond (within (length table) chain place) (Ok (longer chain place)) (Err Outside)
    → exit ≡ cond (within (length table) chain place) (appended with_next table chain.last place fresh) table
    → (res ≡ Ok (longer chain place)) × (exit ≡ appended with_next table chain.last place fresh)
record-added with_next table exit chain place fresh res p l h e f =
    let room = within-from (length table) chain place p l h in
    (e ∙ cond-true _ _ _ room, f ∙ cond-true _ _ _ room)
