-- A Vec that was lent as a slice.
use Rattle.std.proofs.Common.{◌≡◌, List, length, Vec, sym, ap, ◌∙◌}
use Rattle.std.specs.Vec.{with_items}
use Rattle.std.proofs.lemmas.List.{with_items_is}

-- what was done to the slice was done to the Vec
pub refill : {X Z : Type 0} (f : List X → List X) (v : Vec X Z) (ws zs : List X) → length ws ≡ length zs → zs ≡ v.items → ws ≡ f zs → (with_items v ws).items ≡ f v.items
refill f v ws zs k d e = with_items_is v ws (k ∙ ap length d ∙ sym v.ok.0) ∙ e ∙ ap f d
