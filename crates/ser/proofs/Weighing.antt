-- A value that is judged and entered: a `tuple 1`, and any other where its index's child was found.
use Rattle.std.proofs.Common.{◌≡◌, ℕ, ◌<◌, ◌≤◌, min, Bool, true, false, cond, [], ◌∷◌, length, Ok, Err, Option, sym, refl, ap, ◌∙◌, ap₂, arith}
use Rattle.std.specs.declared.option.Option.TheVariants as options
use Rattle.std.proofs.lemmas.Bool.{eqb-true}
use Rattle.std.proofs.lemmas.Bool.Decides.{nat_tests}
use Rattle.document.specs.declared.refusals.Refusal.{Refusal}
use Rattle.document.specs.declared.refusals.Refusal.TheVariants as refusals
use Rattle.document.specs.Calls.{scalar, text, unit, none, some, variant, seq, map, tuple, Call, val, end}
use Rattle.document.specs.Columns.{limit}
use Rattle.document.specs.Verdict.{first_of}
use Rattle.nodes.specs.declared.places.State.{State}
use Rattle.nodes.specs.declared.places.State.TheVariants.{Lone}
use Rattle.ser.specs.Brings.{branching, is_lone}
use Rattle.ser.specs.Moves.{Sheets, node, branch_in, entered, entered_child}
use Rattle.ser.specs.Tables.{lacks_nodes, lacks_text, is_too_long, weighed_at}
use Rattle.ser.specs.Steps.{opened_at, lone_at, answering, entering, entered_at}

-- ---- a `tuple 1`

-- nothing but a table that is too short refuses it
lone-verdict : {X : Type 0} (b c d : Bool) (x : X) → c ≡ false → d ≡ false
    → answering (first_of ((false, refusals.Kind) ∷ (false, refusals.Index) ∷ (b, refusals.Nodes) ∷ (false, refusals.Cells) ∷ (c, refusals.Sum) ∷ (false, refusals.Text) ∷ (d, refusals.TextTable) ∷ [])) x ≡ cond b (Err refusals.Nodes) (Ok x)
lone-verdict true c d x p q = refl
lone-verdict false true d x p q = cc
lone-verdict false false true x p q = cc
lone-verdict false false false x p q = refl

-- which call it is
lone-call : (c : Call) → is_lone c ≡ true → c ≡ val (tuple 1)
lone-call (val (scalar k b)) e = cc
lone-call (val (text bs)) e = cc
lone-call (val unit) e = cc
lone-call (val none) e = cc
lone-call (val some) e = cc
lone-call (val (variant i)) e = cc
lone-call (val (seq n)) e = cc
lone-call (val (map n)) e = cc
lone-call (val (tuple n)) e = ap (λ m. val (tuple m)) (eqb-true n 1 e)
lone-call end e = cc

-- its verdict,
pub lone-entering : (T : Sheets) (r : ℕ) (c : Call) → is_lone c ≡ true → (node T r).sum < limit → T.filled ≤ min (length T.text) 16777216 → lone_at T r ≡ entering T r c
unfolding entering weighed_at
lone-entering T r c lone sum filled =
    let e = lone-verdict (lacks_nodes T 0) (is_too_long T r 0) (lacks_text T 0) (options.Some (Lone r 1)) (grind (arith, nat_tests)) (grind (arith, nat_tests)) in
    sym (ap (entering T r) (lone-call c lone) ∙ e)

-- and the tables then
pub lone-entered : (T : Sheets) (r : ℕ) (c : Call) → is_lone c ≡ true → T ≡ entered_at T r c
unfolding entered_at
lone-entered T r c lone = sym (ap (entered_at T r) (lone-call c lone))

-- ---- any other value

-- a value is entered where its index's child was found: accepted,
pub entering-accepted : (T : Sheets) (r k : ℕ) (c : Call) (U : Sheets) (j : ℕ) (o : Option State) → k ≡ branch_in T r (branching c) → Ok tt ≡ weighed_at T r k c → U ≡ entered r k c T → j ≡ entered_child r k c T
    → o ≡ opened_at U r j c → Ok o ≡ entering T r c
unfolding entering
entering-accepted T r k c U j o found w e f g =
    let at = branch_in T r (branching c) in
    ap Ok (g ∙ ap₂ (λ V i. opened_at V r i c) (e ∙ ap (λ i. entered r i c T) found) (f ∙ ap (λ i. entered_child r i c T) found))
    ∙ ap (λ v. answering v (opened_at (entered r at c T) r (entered_child r at c T) c)) (w ∙ ap (λ i. weighed_at T r i c) found)

-- refused,
pub entering-refused : (T : Sheets) (r k : ℕ) (c : Call) (e : Refusal) → k ≡ branch_in T r (branching c) → Err e ≡ weighed_at T r k c → Err e ≡ entering T r c
unfolding entering
entering-refused T r k c e found w =
    let at = branch_in T r (branching c) in
    ap (λ v. answering v (opened_at (entered r at c T) r (entered_child r at c T) c)) (w ∙ ap (λ i. weighed_at T r i c) found)

-- and the tables then
pub entered-found : (T : Sheets) (r k : ℕ) (c : Call) (U : Sheets) → k ≡ branch_in T r (branching c) → U ≡ entered r k c T → U ≡ entered_at T r c
unfolding entered_at
entered-found T r k c U found e = e ∙ ap (λ i. entered r i c T) found
