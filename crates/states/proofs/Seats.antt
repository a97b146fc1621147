-- A seat is read, part by part.
use Rattle.std.proofs.Common.{◌≡◌, ℕ, List, [], ◌∷◌, ◌++◌, Ok, Bor, Vec, Global, vec_items, refl, append_assoc}
use Rattle.column.specs.Meaning.{Meaning}
use Rattle.document.specs.Calls.{Call, end}
use Rattle.de.specs.declared.reader.Reader.{Reader}
use Rattle.states.specs.declared.asking.Items.TheVariants.{Elements, Pairs}
use Rattle.states.specs.declared.state.Grant.{Grant}
use Rattle.states.specs.declared.state.Seat.{Seat}
use Rattle.states.specs.Documents.{number_calls, grant_calls, cards_calls, grants_calls, hand_calls, seat_calls}
use Rattle.states.specs.Awaiting.{Reads, text_calls, tuple_calls, items_calls}
use Rattle.states.proofs.Awaited.{Along, begun, read-next}

-- a seat's calls from its grants on
abbrev pub from_grants : Seat → List Call
from_grants s = grants_calls s.grants.now ++ end ∷ []

-- .. from its cards on
abbrev pub from_cards : Seat → List Call
from_cards s = cards_calls s.cards.now ++ from_grants s

-- .. and from its name on
abbrev pub from_name : Seat → List Call
from_name s = text_calls s.name.now ++ from_cards s

-- a seat's calls are its beginning and those from its name on
pub seat-parts : (s : Seat) → seat_calls s ≡ tuple_calls 3 tt ++ from_name s
seat-parts s = append_assoc (hand_calls s) (grants_calls s.grants.now) (end ∷ [])

module _ {C : Type 0} (meaning : C → Meaning) (input : List ℕ) (old : Reader C) {opened : Reader C} (t : Reads meaning input old opened (tuple_calls 3) (λ y x. y ≡ x) (Ok tt)) where
  -- it is opened
  pub opened-seat : Along meaning input old opened seat_calls (λ s. Unit {0}) from_name
  opened-seat = read-next (λ (s : Seat). Unit {0}) from_name (λ s k. (tt, seat-parts s, λ same. tt)) (begun meaning input old seat_calls) t

  module _ (name : Bor (List ℕ)) {named : Reader C} (u : Reads meaning input opened named text_calls (λ y x. y.now ≡ x) (Ok name)) where
    -- its name is read
    pub named-seat : Along meaning input old named seat_calls (λ s. name.now ≡ s.name.now) from_cards
    named-seat = read-next (λ (s : Seat). name.now ≡ s.name.now) from_cards (λ s k. (s.name.now, refl, λ same. same)) opened-seat u

    module _ (cards : Vec ℕ Global) {dealt : Reader C} (v : Reads meaning input named dealt (items_calls Elements number_calls) (λ y x. vec_items y ≡ x) (Ok cards)) where
      -- .. its cards
      pub dealt-seat : Along meaning input old dealt seat_calls (λ s. (name.now ≡ s.name.now) × (vec_items cards ≡ s.cards.now)) from_grants
      dealt-seat = read-next (λ (s : Seat). (name.now ≡ s.name.now) × (vec_items cards ≡ s.cards.now)) from_grants (λ s k. (s.cards.now, refl, λ same. (k, same))) named-seat v

      module _ (grants : Vec Grant Global) {granted : Reader C} (w : Reads meaning input dealt granted (items_calls Pairs grant_calls) (λ y x. vec_items y ≡ x) (Ok grants)) where
        -- .. and what they grant
        pub granted-seat : Along meaning input old granted seat_calls (λ s. (name.now ≡ s.name.now) × (vec_items cards ≡ s.cards.now) × (vec_items grants ≡ s.grants.now)) (λ s. end ∷ [])
        granted-seat = read-next (λ (s : Seat). (name.now ≡ s.name.now) × (vec_items cards ≡ s.cards.now) × (vec_items grants ≡ s.grants.now)) (λ s. end ∷ []) (λ s k. (s.grants.now, refl, λ same. (k.0, k.1, same))) dealt-seat w
