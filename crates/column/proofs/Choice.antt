-- Results that a test chose, and faults that are passed on.
use Rattle.std.specs.Prelude.{◌≡◌, ℕ, Bool, true, false, cond, IsErrAnd, Ok, Err, Result, refl, ◌+◌, ◌<◌}
use Rattle.std.proofs.Common.{◌∙◌, ap, arith}
use Rattle.std.proofs.lemmas.Result.{err_from_is_err_and}
use Rattle.column.specs.declared.fault.Cause.{Cause}
use Rattle.column.specs.declared.fault.Fault.{Fault}
use Rattle.column.specs.Parsed.{fault}

-- where a test chose between two results and the answer is an Ok, the test held
pub chose : {X E : Type 0} (b : Bool) (x y : X) (e : E) → Ok y ≡ cond b (Ok x) (Err e) → (b ≡ true) × (y ≡ x)
chose true x y e h = (refl, cc)
chose false x y e h = let z : ◌≡◌ {A = ℕ} 0 1 = cc in absurd (omega arith)

pub chose-both : {X E : Type 0} (a b : Bool) (x y : X) (d e : E) → Ok y ≡ cond a (cond b (Ok x) (Err d)) (Err e) → (a ≡ true) × (b ≡ true) × (y ≡ x)
chose-both true b x y d e h = let c = chose b x y d h in (refl, c.0, c.1)
chose-both false b x y d e h = let z : ◌≡◌ {A = ℕ} 0 1 = cc in absurd (omega arith)

-- and where the answer is an Err, it did not
pub declined : {X E : Type 0} (b : Bool) (x : X) (d e : E) → Err d ≡ cond b (Ok x) (Err e) → (b ≡ false) × (d ≡ e)
declined true x d e h = let z : ◌≡◌ {A = ℕ} 0 1 = cc in absurd (omega arith)
declined false x d e h = (refl, cc)

-- what the exit of a `?` returns is the callee's error
pub passed_on : {X E : Type 0} (r : Result X E) (e : E) → IsErrAnd r (λ y. y ≡ e) → r ≡ Err e
passed_on r e h = let p = err_from_is_err_and r h in p.1 ∙ ap Err p.2

-- a fault that a layer finds itself
pub found_here : (c : Cause) (layer : ℕ) → layer < 65536 → ◌≡◌ {A = Fault} (record { cause = c; layer = layer }) (fault c (layer + 0))
found_here c layer h = ap (λ (n : ℕ). record { cause = c; layer = n }) (omega arith)
