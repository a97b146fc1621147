-- A grant by its parts.
use Rattle.std.proofs.Common.{◌≡◌, ℕ, Bool, true, false, List, [], ◌++◌, Ok, Option, Some, None, is_some, refl, ap₂, sym}
use Rattle.column.specs.Meaning.{Meaning}
use Rattle.document.specs.Calls.{Call}
use Rattle.de.specs.declared.reader.Reader.{Reader}
use Rattle.states.specs.declared.state.Grant.{Grant}
use Rattle.states.specs.Documents.{number_calls, target_calls, grant_calls}
use Rattle.states.specs.Awaiting.{Reads, option_calls}
use Rattle.states.proofs.Awaited.{Along, begun, read-next}

-- what is left of a grant that is told up to whether a seat follows
abbrev pub seat_calls : Option ℕ → List Call
seat_calls (Some seat) = number_calls seat
seat_calls None = []

pub target-parts : (s : Option ℕ) → target_calls s ≡ option_calls (is_some s) ++ seat_calls s
target-parts (Some seat) = refl
target-parts None = refl

-- a seat follows
pub seat-follows : (b : Bool) (s : Option ℕ) → b ≡ is_some s → b ≡ true → (n : ℕ) × (seat_calls s ≡ number_calls n) × (s ≡ Some n)
seat-follows b (Some n) e t = (n, refl, refl)
seat-follows b None e t = cc

-- .. or none does
pub none-follows : (b : Bool) (s : Option ℕ) → b ≡ is_some s → b ≡ false → (seat_calls s ≡ []) × (s ≡ None)
none-follows b (Some n) e f = cc
none-follows b None e f = (refl, refl)

-- the same parts are the same grant
pub same-grant : (card : ℕ) (seat : Option ℕ) (g : Grant) → card ≡ g.card → g.seat ≡ seat → record { card = card; seat = seat } ≡ g
same-grant card seat g c s = ap₂ (λ (x : ℕ) (y : Option ℕ). let z : Grant = record { card = x; seat = y } in z) c (sym s)

module _ {C : Type 0} (meaning : C → Meaning) (input : List ℕ) (old : Reader C) where
  -- the card is read
  pub card-read : {r : Reader C} (card : ℕ) → Reads meaning input old r number_calls (λ y x. y ≡ x) (Ok card) → Along meaning input old r grant_calls (λ g. card ≡ g.card) (λ g. target_calls g.seat)
  card-read card t = read-next (λ (g : Grant). card ≡ g.card) (λ g. target_calls g.seat) (λ g k. (g.card, refl, λ same. same)) (begun meaning input old grant_calls) t

  -- .. and whether a seat follows
  pub opening-read : {r new : Reader C} (card : ℕ) (opens : Bool) → Reads meaning input old r number_calls (λ y x. y ≡ x) (Ok card) → Reads meaning input r new option_calls (λ y x. y ≡ x) (Ok opens)
      → Along meaning input old new grant_calls (λ g. (card ≡ g.card) × (opens ≡ is_some g.seat)) (λ g. seat_calls g.seat)
  opening-read card opens t u = read-next (λ (g : Grant). (card ≡ g.card) × (opens ≡ is_some g.seat)) (λ g. seat_calls g.seat) (λ g k. (is_some g.seat, target-parts g.seat, λ same. (k, same))) (card-read card t) u
