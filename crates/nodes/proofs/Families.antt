-- The children that come with a kind.
use Rattle.std.proofs.Common.{◌≡◌, ℕ, zero, suc, ◌+◌, ◌<◌, get_or, refl, ap, ◌∙◌, arith}
use Rattle.document.specs.Calls.{Kind, SCALAR, TEXT, SEQ, MAP, ENUM, UNIT, TUPLE}
use Rattle.document.specs.Nodes.{Path, root, ◌▹◌, Step, elem, key, value, field}
use Rattle.document.specs.Tables.{takes}
use Rattle.document.specs.Records.{brought, fields_from}
use Rattle.nodes.specs.Marks.{mark_of, family_of}
use Rattle.nodes.specs.Homes.{ordinal}

-- as many children come with a kind's mark as the kind takes records
pub family-takes : (K : Kind) → family_of (mark_of K) ≡ takes K
family-takes (SCALAR k) = refl
family-takes TEXT = refl
family-takes SEQ = refl
family-takes MAP = refl
family-takes ENUM = refl
family-takes UNIT = refl
family-takes (TUPLE n) = refl

-- so many fields, counted from i
pub field_at : (p : Path) (i n j : ℕ) → j < n → get_or (fields_from p i n) j root ≡ p ▹ field (i + j)
field_at p i zero j h = absurd (omega arith)
field_at p i (suc n) zero h = let e : i ≡ i + 0 = omega arith in ap (λ k. p ▹ field k) e
field_at p i (suc n) (suc j) h = let e : suc i + j ≡ i + suc j = omega arith in field_at p (suc i) n j (omega arith) ∙ ap (λ k. p ▹ field k) e

-- each is a child, in the order of the ordinals
pub brought-at : (p : Path) (K : Kind) (j : ℕ) → j < takes K → (s : Step) × (get_or (brought p K) j root ≡ p ▹ s) × (ordinal (p ▹ s) ≡ j)
brought-at p (SCALAR k) j h = absurd (omega arith)
brought-at p TEXT j h = absurd (omega arith)
brought-at p SEQ zero h = (elem, refl, refl)
brought-at p SEQ (suc j) h = absurd (omega arith)
brought-at p MAP zero h = (key, refl, refl)
brought-at p MAP (suc zero) h = (value, refl, refl)
brought-at p MAP (suc (suc j)) h = absurd (omega arith)
brought-at p ENUM j h = absurd (omega arith)
brought-at p UNIT j h = absurd (omega arith)
brought-at p (TUPLE n) j h = let e : 0 + j ≡ j = omega arith in (field (0 + j), field_at p 0 n j h, e)
