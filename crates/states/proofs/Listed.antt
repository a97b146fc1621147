-- A list is read, item by item.
use Rattle.std.proofs.Common.{◌≡◌, ℕ, zero, suc, ◌+◌, ◌<◌, ◌≤◌, List, [], ◌∷◌, ◌++◌, length, take, drop, Ok, Err, Result, IsErrAnd, sym, refl, ap, ap₂, ◌∙◌, subst, append_assoc, add-one, arith}
use Rattle.std.proofs.Math.ListN.{drop_of_length-le}
use Rattle.std.proofs.lemmas.List.{take_all}
use Rattle.std.specs.List.{AllZip, flat_map}
use Rattle.column.specs.Meaning.{Meaning}
use Rattle.document.specs.Calls.{Call, end}
use Rattle.de.specs.declared.reader.Reader.{Reader}
use Rattle.states.specs.declared.asking.Items.{Items}
use Rattle.states.specs.declared.message.MessageError.{MessageError}
use Rattle.states.specs.Awaiting.{Reads, length_calls, items_calls, end_calls}
use Rattle.states.proofs.Awaited.{Along, begun, read-next, read-failed, read-all}

-- the item at a place, between those before and those after it
pieces-suc : {X : Type 0} (i : ℕ) (xs : List X) → i < length xs → (x : X) × (drop i xs ≡ x ∷ drop (suc i) xs) × (take (suc i) xs ≡ take i xs ++ x ∷ [])
pieces-suc i [] l = let no : ⊥ = omega arith in absurd no
pieces-suc zero (x ∷ xs) l = (x, refl, refl)
pieces-suc (suc i) (x ∷ xs) l = let (y, d, t) = pieces-suc i xs (omega arith) in (y, d, ap (λ ys. x ∷ ys) t)

pieces : {X : Type 0} (i : ℕ) (xs : List X) → i < length xs → (x : X) × (drop i xs ≡ x ∷ drop (i + 1) xs) × (take (i + 1) xs ≡ take i xs ++ x ∷ [])
pieces {X = X} i xs l = subst (λ n. (x : X) × (drop i xs ≡ x ∷ drop n xs) × (take n xs ≡ take i xs ++ x ∷ [])) (sym (add-one i)) (pieces-suc i xs l)

-- one pair more
zip-push : {X Y : Type 0} (R : Y → X → Type 0) (ys : List Y) (xs : List X) (y : Y) (x : X) → AllZip R ys xs → R y x → AllZip R (ys ++ y ∷ []) (xs ++ x ∷ [])
zip-push R [] [] y x h r = (r, tt)
zip-push R [] (a ∷ xs) y x h r = absurd h
zip-push R (b ∷ ys) [] y x h r = absurd h
zip-push R (b ∷ ys) (a ∷ xs) y x h r = (h.0, zip-push R ys xs y x h.1 r)

-- equal place by place
pub zip-equal : {X : Type 0} (ys xs : List X) → AllZip (λ y x. y ≡ x) ys xs → ys ≡ xs
zip-equal [] [] h = refl
zip-equal [] (x ∷ xs) h = absurd h
zip-equal (y ∷ ys) [] h = absurd h
zip-equal (y ∷ ys) (x ∷ xs) h = ap₂ (λ b bs. b ∷ bs) h.0 (zip-equal ys xs h.1)

-- of n items the first i are these
abbrev pub Known : {X Y : Type 0} → (Y → X → Type 0) → ℕ → ℕ → List Y → List X → Type 0
Known Same n i ys xs = (length xs ≡ n) × AllZip Same ys (take i xs)

-- the items from the place i on, and the end
abbrev pub left : {X : Type 0} → (X → List Call) → ℕ → List X → List Call
left calls i xs = flat_map calls (drop i xs) ++ end ∷ []

-- i items of n were read
abbrev pub Listed : {C X Y : Type 0} → (C → Meaning) → List ℕ → Reader C → Reader C → Items → (X → List Call) → (Y → X → Type 0) → ℕ → ℕ → List Y → Type 0
Listed meaning input old now items calls Same n i ys = Along meaning input old now (items_calls items calls) (Known Same n i ys) (left calls i)

module _ {C X Y : Type 0} {meaning : C → Meaning} {input : List ℕ} {old : Reader C} (items : Items) (calls : X → List Call) (Same : Y → X → Type 0) where
  -- how many there are
  pub none-read : {new : Reader C} (n : ℕ) → Reads meaning input old new (length_calls items) (λ y x. y ≡ x) (Ok n) → Listed meaning input old new items calls Same n 0 []
  none-read n t = read-next (Known Same n 0 []) (left calls 0) (λ xs k. (length xs, refl, λ same. (sym same, tt))) (begun meaning input old (items_calls items calls)) t

  module _ {L : Type 0} (Is : L → List X → Type 0) (s : Result L MessageError) where
    -- .. was not told
    pub length-failed : {new : Reader C} (e : MessageError) → IsErrAnd s (λ y. y ≡ e) → Reads meaning input old new (length_calls items) (λ y x. y ≡ x) (Err e) → Reads meaning input old new (items_calls items calls) Is s
    length-failed e fails t = read-failed (left calls 0) Is s (λ xs k. (length xs, refl)) fails (begun meaning input old (items_calls items calls)) t

  module _ {now : Reader C} (n i : ℕ) (ys : List Y) (before : Listed meaning input old now items calls Same n i ys) where
    -- the next item's calls
    next : i < n → (xs : List X) → Known Same n i ys xs → (x : X) × (left calls i xs ≡ calls x ++ left calls (i + 1) xs) × (take (i + 1) xs ≡ take i xs ++ x ∷ [])
    next l xs k =
        let (x, d, t) = pieces i xs (omega arith) in
        (x, ap (λ zs. flat_map calls zs ++ end ∷ []) d ∙ append_assoc (calls x) (flat_map calls (drop (i + 1) xs)) (end ∷ []), t)

    -- one item more
    pub item-read : {new : Reader C} (y : Y) → i < n → Reads meaning input now new calls Same (Ok y) → Listed meaning input old new items calls Same n (i + 1) (ys ++ y ∷ [])
    item-read y l t =
        read-next (Known Same n (i + 1) (ys ++ y ∷ [])) (left calls (i + 1))
        (λ xs k. let (x, is, more) = next l xs k in (x, is, λ same. (k.0, subst (AllZip Same (ys ++ y ∷ [])) (sym more) (zip-push Same ys (take i xs) y x k.1 same)))) before t

    module _ {L : Type 0} (Is : L → List X → Type 0) (s : Result L MessageError) where
      -- .. is not read
      pub item-failed : {new : Reader C} (e : MessageError) → i < n → IsErrAnd s (λ y. y ≡ e) → Reads meaning input now new calls Same (Err e) → Reads meaning input old new (items_calls items calls) Is s
      item-failed e l fails t = read-failed (left calls (i + 1)) Is s (λ xs k. let (x, is, more) = next l xs k in (x, is)) fails before t

    -- the end
    last : n ≤ i → (xs : List X) → Known Same n i ys xs → left calls i xs ≡ end ∷ []
    last l xs k = ap (λ zs. flat_map calls zs ++ end ∷ []) (drop_of_length-le xs (omega arith))

    -- .. is not read
    pub end-failed : {new : Reader C} {L : Type 0} (Is : L → List X → Type 0) (s : Result L MessageError) (e : MessageError) → n ≤ i → IsErrAnd s (λ y. y ≡ e) → Reads meaning input now new end_calls (λ y x. y ≡ x) (Err e)
        → Reads meaning input old new (items_calls items calls) Is s
    end-failed Is s e l fails t = read-failed (λ xs. []) Is s (λ xs k. (tt {0}, last l xs k)) fails before t

    -- all items are read, and the end
    pub list-read : {new : Reader C} {L : Type 0} (Is : L → List X → Type 0) (list : L) → ((xs : List X) → AllZip Same ys xs → Is list xs) → n ≤ i → Reads meaning input now new end_calls (λ y x. y ≡ x) (Ok tt)
        → Reads meaning input old new (items_calls items calls) Is (Ok list)
    list-read Is list is l t =
        read-all list Is (λ xs k. (refl, is xs (subst (AllZip Same ys) (take_all i xs (omega arith)) k.1)))
        (read-next (Known Same n i ys) (λ xs. []) (λ xs k. (tt {0}, last l xs k, λ same. k)) before t)
