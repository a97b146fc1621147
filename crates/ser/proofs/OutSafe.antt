-- What write-out needs is a mere proposition.
use Rattle.std.proofs.Common.{ℕ, ◌+◌, ◌^◌, ◌<◌, ◌≤◌, List, length, refl, arith}
use native.Mathlib.Bridge.{le_prop}
use Rattle.std.specs.List.{AllByRecursion-prop}
use Rattle.document.specs.Calls.{width}
use Rattle.nodes.specs.declared.marks.Mark.{Mark}
use Rattle.nodes.specs.declared.marks.Mark.TheVariants as marks
use Rattle.ser.specs.declared.records.Node.{Node}
use Rattle.ser.specs.declared.records.Cell.{Cell}
use Rattle.ser.specs.Moves.{Sheets}
use Rattle.ser.specs.Out.{start_at, value_at, FitsMark, PiecesBy, NodeSafe, OutSafe}

-- that the values fit
fits-prop : (m : Mark) (vs : List ℕ) → IsProp (FitsMark m vs)
fits-prop marks.Unmarked vs = λ a b. refl
fits-prop (marks.Scalar k) vs = AllByRecursion-prop (λ v. v < 2 ^ width k) (λ v. le_prop) vs
fits-prop marks.Text vs = AllByRecursion-prop (λ v. v < 2 ^ 64) (λ v. le_prop) vs
fits-prop marks.Seq vs = AllByRecursion-prop (λ v. v < 2 ^ 64) (λ v. le_prop) vs
fits-prop marks.Map vs = AllByRecursion-prop (λ v. v < 2 ^ 64) (λ v. le_prop) vs
fits-prop marks.Enum vs = AllByRecursion-prop (λ v. v < 2 ^ 8) (λ v. le_prop) vs
fits-prop marks.Unit vs = λ a b. refl
fits-prop (marks.Tuple n) vs = λ a b. refl

-- that the pieces lie within the text
pieces-prop : (m : Mark) (cs : List Cell) (text ks : List ℕ) → IsProp (PiecesBy m cs text ks)
pieces-prop marks.Unmarked cs text ks = λ a b. refl
pieces-prop (marks.Scalar k) cs text ks = λ a b. refl
pieces-prop marks.Text cs text ks = AllByRecursion-prop (λ k. start_at cs k + value_at cs k ≤ length text) (λ k. le_prop) ks
pieces-prop marks.Seq cs text ks = λ a b. refl
pieces-prop marks.Map cs text ks = λ a b. refl
pieces-prop marks.Enum cs text ks = λ a b. refl
pieces-prop marks.Unit cs text ks = λ a b. refl
pieces-prop (marks.Tuple n) cs text ks = λ a b. refl

-- that a record is safe
node-safe-prop : (cs : List Cell) (text : List ℕ) (n : ℕ) (r : Node) → IsProp (NodeSafe cs text n r)
node-safe-prop cs text n r a b = λ i. record {
  few = le_prop a.few b.few i;
  fits = fits-prop r.mark _ a.fits b.fits i;
  pieces = pieces-prop r.mark cs text _ a.pieces b.pieces i;
}

-- what write-out needs holds in one way at most
pub out-safe-prop : (T : Sheets) (n : ℕ) → IsProp (OutSafe T n)
out-safe-prop T n a b = λ i. record {
  listed = λ j h. le_prop (a.listed j h) (b.listed j h) i;
  within = λ j h. le_prop (a.within j h) (b.within j h) i;
  safe = λ j h. node-safe-prop T.cells T.text n _ (a.safe j h) (b.safe j h) i;
}

-- a longer scratch does as well
pub out-safe-more : (T : Sheets) (n m : ℕ) → n ≤ m → OutSafe T n → OutSafe T m
out-safe-more T n m l a =
    record {
      listed = a.listed;
      within = a.within;
      safe = λ j h. let s = a.safe j h in record { few = omega (arith, s.few); fits = s.fits; pieces = s.pieces };
    }
