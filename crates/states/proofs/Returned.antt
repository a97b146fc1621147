-- Grants are equal where their test says so.
use Rattle.std.proofs.Common.{◌≡◌, ℕ, true, ◌&&◌, nat_eq, Option, Some, None, refl, ap, ap₂, subst}
use Rattle.std.proofs.lemmas.Bool.Decides.{Decides-eqb}
use Rattle.std.specs.Bool.{Decides}
use Rattle.std.specs.Cmp.{first_so, second_so}
use Rattle.std.specs.Option.{option_eq}
use Rattle.states.specs.declared.state.Grant.{Grant}

-- the seat whose hand a card opens, if any
seats-decide : (x y : Option ℕ) → Decides (option_eq nat_eq x y) (x ≡ y)
seats-decide None None = (λ e. refl, λ e. refl)
seats-decide None (Some y) = (λ e. cc, λ e. cc)
seats-decide (Some x) None = (λ e. cc, λ e. cc)
seats-decide (Some x) (Some y) = let d = Decides-eqb x y in (λ e. ap Some (d.0 e), λ e. d.1 cc)

-- a grant
pub grants-decide : (g h : Grant) → Decides (nat_eq g.card h.card && option_eq nat_eq g.seat h.seat) (g ≡ h)
grants-decide g h = (same, λ e. subst (λ k. nat_eq g.card k.card && option_eq nat_eq g.seat k.seat ≡ true) e own)
  where
    same : nat_eq g.card h.card && option_eq nat_eq g.seat h.seat ≡ true → g ≡ h
    same e =
        ap₂ (λ c s. record { card = c; seat = s }) ((Decides-eqb g.card h.card).0 (first_so (nat_eq g.card h.card) (option_eq nat_eq g.seat h.seat) e))
        ((seats-decide g.seat h.seat).0 (second_so (nat_eq g.card h.card) (option_eq nat_eq g.seat h.seat) e))

    own : nat_eq g.card g.card && option_eq nat_eq g.seat g.seat ≡ true
    own = ap₂ (λ a b. a && b) ((Decides-eqb g.card g.card).1 refl) ((seats-decide g.seat g.seat).1 refl)
