-- A reader finishes.
use Rattle.std.proofs.Common.{◌≡◌, ℕ, ◌<◌, List, [], ◌∷◌, length, drop, Err, sym, refl, ap, ◌∙◌, subst, arith, Ok, Result}
use Rattle.std.proofs.lemmas.List.{length-drop}
use Rattle.document.specs.declared.refusals.Refusal.TheVariants as refusals
use Rattle.document.specs.Reader.{Reading}
use Rattle.nodes.specs.Stack.{levels}
use Rattle.nodes.specs.Placed.{Open}
use Rattle.de.specs.declared.desk.Desk.{Desk}
use Rattle.de.specs.Standing.{Stands, ended, finishing}
use Rattle.document.specs.declared.refusals.Refusal.{Refusal}
use Rattle.document.specs.Places.{Place}
use Rattle.document.specs.Replay.{Replay, heard, stopped, ending, finish}

-- where no place is open and bytes are left, they are told
pub finish-left : (d : Desk) (input : List ℕ) (R : Reading) → Stands d input R → d.places.depth ≡ 0 → d.tables.spot.place < length input → Err refusals.Left ≡ finishing R
finish-left d input R S e l = go (drop d.tables.spot.place input) (omega (arith, length-drop d.tables.spot.place input)) ∙ sym (ap (λ fs. ended fs R.store.input) none ∙ ap (ended []) S.reads.rest)
  where
    none : R.places ≡ []
    none = subst (λ n. Open S.nodes (levels d.places.table n) R.places) e S.opens

    go : (bs : List ℕ) → 0 < length bs → Err refusals.Left ≡ ended [] bs
    go [] h = absurd (omega arith)
    go (b ∷ bs) h = refl

-- ---- finish, as a whole reading has it

-- nothing is heard more, or the refusal
abbrev told : Result (Unit {0}) Refusal → Replay
told (Ok u) = heard [] []
told (Err e) = stopped e

-- once no question is left, a reading finishes as the reader does
pub finishing-is : (R : Reading) → told (finishing R) ≡ finish (ending R.places R.store.input)
finishing-is R = go R.places R.store.input
  where
    go : (fs : List Place) (bs : List ℕ) → told (ended fs bs) ≡ finish (ending fs bs)
    go [] [] = refl
    go [] (b ∷ bs) = refl
    go (f ∷ fs) bs = refl
