-- `append` writes the new record and links the last one to it, so the table is `appended`; what that means for chains is in Links.
use Rattle.std.proofs.Common.{◌≡◌, ℕ, ◌<◌, true, cond, eqb, List, [], ◌∷◌, ◌++◌, map, length, get_or, set, Ok, Err, Result, sym, ap, ◌∙◌, subst, arith, length-set}
use Rattle.std.proofs.lemmas.List.{length-map}
use Rattle.std.proofs.lemmas.Bool.{cond-true, cond-false, eq-eqb, ne_eqb}
use Rattle.std.specs.List.{AllByRecursion}
use Rattle.chain.specs.declared.Chain.{Chain}
use Rattle.chain.specs.declared.Fault.{Fault}
use Rattle.chain.specs.declared.Fault.TheVariants.{Outside}
use Rattle.chain.specs.Chains.{Runs, Out, last_of, within, longer, adjust, appended}
use Rattle.chain.proofs.Tables.{set-adjust, appended-first, appended-after, nexts-appended}
use Rattle.chain.proofs.Replies.{within-from}
use Rattle.chain.proofs.Links.{runs_append, runs-beside}
use Rattle.chain.proofs.append.Goals as goal

-- an append that is within the table, and what it leaves there
module _ {R : Type 0} (next_of : R → ℕ) (with_next : R → ℕ → R) (linked : (r : R) (n : ℕ) → next_of (with_next r n) ≡ n)
    (table : List R) (chain : Chain) (place : ℕ) (new : R) (p : 0 < place) (q : place < length table) (l : chain.last < length table)
    (head : ℕ) (first : cond (eqb chain.last 0) place chain.first ≡ head)
    (exit : List R) (ex : exit ≡ appended with_next table chain.last place new) where
  inside : within (length table) chain place ≡ true
  inside = within-from (length table) chain place p q l

  answers : ◌≡◌ {A = Result Chain Fault} (Ok (record { first = head; last = place })) (cond (within (length table) chain place) (Ok (longer chain place)) (Err Outside))
  answers = sym (cond-true _ _ _ inside ∙ ap {B = Result Chain Fault} (λ (k : ℕ). Ok (record { first = k; last = place })) first)

  leaves : exit ≡ cond (within (length table) chain place) (appended with_next table chain.last place new) table
  leaves = ex ∙ sym (cond-true _ _ _ inside)

  nexts : map next_of exit ≡ appended (λ _ n. n) (map next_of table) chain.last place 0
  nexts = ap (map next_of) ex ∙ nexts-appended with_next table chain.last place new next_of linked

  lengthens : (is : List ℕ) → Runs (map next_of table) chain.first is → last_of is ≡ chain.last → AllByRecursion (λ i. i < place) is → Runs (map next_of exit) head (is ++ place ∷ [])
  lengthens is h e below =
      let P : List ℕ → Type 0 = λ ms. Runs ms head (is ++ place ∷ []) in
      let Q : ℕ → Type 0 = λ k. Runs (appended (λ _ n. n) (map next_of table) chain.last place 0) k (is ++ place ∷ []) in
      subst P (sym nexts) (subst Q first (runs_append (map next_of table) chain.first chain.last place is p (simp length-map q) h e below))

  spares : (start : ℕ) (is : List ℕ) → Runs (map next_of table) start is → Out chain.last is → Out place is → Runs (map next_of exit) start is
  spares start is h o u =
      let P : List ℕ → Type 0 = λ ms. Runs ms start is in
      subst P (sym nexts) (runs-beside (map next_of table) chain.last place start is h o u)

-- the two writes: the new record, and the last one's link to it
written : {R : Type 0} (with_next : R → ℕ → R) (table : List R) (last place : ℕ) (new end link d : R) → last < length table → (last ≡ 0 → ⊥)
    → end ≡ with_next new 0 → link ≡ with_next (get_or (set table place end) last d) place → set (set table place end) last link ≡ appended with_next table last place new
written with_next table last place new end link d l nz e f =
    ap (set (set table place end) last) f ∙ set-adjust (λ r. with_next r place) (set table place end) last d (simp length-set l)
    ∙ ap (λ x. adjust (λ r. with_next r place) last (set table place x)) e
    ∙ sym (appended-after with_next table last place new nz)

-- the chain had no record
pub returns-then-chain-eq0 : goal.returns-then-chain-eq0
returns-then-chain-eq0 g c =
    let f = g.R.Linked.next_of in
    let w = g.R.Linked.with_next in
    let law = g.met.R.Linked.linked in
    let t = c.args.table.now in
    let chain = c.args.chain in
    let place = c.args.place in
    let new = c.args.fresh in
    let p : 0 < place = omega arith in
    let q : place < length t = omega arith in
    let l : chain.last < length t = omega arith in
    let first : cond (eqb chain.last 0) place chain.first ≡ place = cond-true (eqb chain.last 0) _ _ (eq-eqb chain.last 0 c.if-chain-eq0.true) in
    let exit = set t place c.link.new.self in
    let ex : exit ≡ appended w t chain.last place new = ap (set t place) c.link.ensures ∙ sym (appended-first w t chain.last place new c.if-chain-eq0.true) in
    record {
      answer = answers f w law t chain place new p q l place first exit ex;
      table = leaves f w law t chain place new p q l place first exit ex;
      longer = lengthens f w law t chain place new p q l place first exit ex;
      others = spares f w law t chain place new p q l place first exit ex;
    }

-- the chain had a last record
pub returns : goal.returns
returns g c =
    let f = g.R.Linked.next_of in
    let w = g.R.Linked.with_next in
    let law = g.met.R.Linked.linked in
    let t = c.args.table.now in
    let chain = c.args.chain in
    let place = c.args.place in
    let new = c.args.fresh in
    let p : 0 < place = omega arith in
    let q : place < length t = omega arith in
    let l : chain.last < length t = omega arith in
    let first : cond (eqb chain.last 0) place chain.first ≡ chain.first = cond-false (eqb chain.last 0) _ _ (ne_eqb chain.last 0 c.if-chain-eq0.false) in
    let placed = set t place c.link.new.self in
    let exit = set placed chain.last c.link-2.new.self in
    let ex : exit ≡ appended w t chain.last place new =
    written w t chain.last place new c.link.new.self c.link-2.new.self c.index-table-chain.result l c.if-chain-eq0.false c.link.ensures c.link-2.ensures in
    record {
      answer = answers f w law t chain place new p q l chain.first first exit ex;
      table = leaves f w law t chain place new p q l chain.first first exit ex;
      longer = lengthens f w law t chain place new p q l chain.first first exit ex;
      others = spares f w law t chain place new p q l chain.first first exit ex;
    }
