-- Layers: what they answer and leave by what the kind below does.
use Rattle.std.specs.Prelude.{◌≡◌, ℕ, suc, ◌+◌, min, true, ◌&&◌, List, length, Result, refl}
use Rattle.std.proofs.Common.{◌∙◌, ap, ap₂, subst, arith}
use Rattle.std.proofs.lemmas.Bool.{and_parts, and_from}
use Rattle.column.specs.declared.fault.Cause.{Cause}
use Rattle.column.specs.declared.fault.Cause.TheVariants.{Room}
use Rattle.column.specs.declared.fault.Fault.{Fault}
use Rattle.column.specs.Widths.{listed, below}
use Rattle.column.specs.Parsed.{fault}
use Rattle.column.specs.Meaning.{Meaning}
use Rattle.column.specs.Interface.{writing, Written}
use Rattle.column.specs.Layer.{layer, Undone}
use Rattle.column.proofs.Widths.{below-decides}

deeper : (top depth : ℕ) → min (min (top + 1) 65535 + depth) 65535 ≡ min (top + suc depth) 65535
deeper top depth = omega arith

fault-deeper : (c : Cause) (top depth : ℕ) → fault c (min (top + 1) 65535 + depth) ≡ fault c (top + suc depth)
fault-deeper c top depth = ap (λ (n : ℕ). record { cause = c; layer = n }) (deeper top depth)

-- what the kind below answers to the changed list, and leaves in the output, is what the layer answers and leaves
pub layer-written : (there back : ℕ → List ℕ → List ℕ) → Undone there back → (kind : Meaning) (top w : ℕ) (vs old new : List ℕ) (place : ℕ) (r : Result ℕ Fault) (next : ℕ) (ds : List ℕ)
    → (listed w && below w vs) ≡ true → next ≡ min (top + 1) 65535 → ds ≡ there w vs
    → r ≡ writing kind next w ds (length old) place → Written r place (kind.image w ds) old new
    → (r ≡ writing (layer there back kind) top w vs (length old) place) × Written r place (kind.image w (there w vs)) old new
layer-written there back undone kind top w vs old new place r next ds h n d answer bytes =
    let parts = and_parts (listed w) (below w vs) h in
    let fits = (below-decides w (there w vs)).1 (undone.fits w vs ((below-decides w vs).0 parts.1)) in
    let b : (listed w && below w (there w vs)) ≡ true = and_from (listed w) _ parts.0 fits in
    let same : writing kind (min (top + 1) 65535) w (there w vs) (length old) place ≡ writing (layer there back kind) top w vs (length old) place = rw (h, b, fault-deeper Room top kind.floor) refl in (
      answer ∙ ap₂ (λ (m : ℕ) (xs : List ℕ). writing kind m w xs (length old) place) n d ∙ same,
      subst (λ (xs : List ℕ). Written r place (kind.image w xs) old new) d bytes,
    )
