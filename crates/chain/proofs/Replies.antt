-- What an append's answer says.
use Rattle.std.proofs.Common.{◌≡◌, ℕ, ◌<◌, Bool, true, false, cond, ◌&&◌, ltb, Ok, Err, Result, refl}
use Rattle.std.proofs.lemmas.Bool.{lt-ltb, and_from}
use Rattle.chain.specs.declared.Chain.{Chain}
use Rattle.chain.specs.declared.Fault.{Fault}
use Rattle.chain.specs.declared.Fault.TheVariants.{Outside}
use Rattle.chain.specs.Chains.{within}

-- the test is what it says
pub within-from : (n : ℕ) (chain : Chain) (place : ℕ) → 0 < place → place < n → chain.last < n → within n chain place ≡ true
within-from n chain place p q l =
    and_from (ltb 0 place) (ltb place n && ltb chain.last n) (lt-ltb 0 place p) (and_from (ltb place n) (ltb chain.last n) (lt-ltb place n q) (lt-ltb chain.last n l))

-- after an acceptance the test holds, and the answer is the longer chain
pub accepted : (t : Bool) (made c : Chain) (r : Result Chain Fault) → r ≡ cond t (Ok made) (Err Outside) → r ≡ Ok c → (t ≡ true) × (c ≡ made)
accepted true made c r e o = (refl, cc)
accepted false made c r e o = cc

-- after a refusal it does not
pub refused : (t : Bool) (made : Chain) (f : Fault) (r : Result Chain Fault) → r ≡ cond t (Ok made) (Err Outside) → r ≡ Err f → t ≡ false
refused true made f r e o = cc
refused false made f r e o = refl
