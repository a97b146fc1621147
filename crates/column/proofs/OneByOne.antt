-- Kinds that put one value after another: the steps of both loops.
use Rattle.std.specs.Prelude.{◌≡◌, ℕ, suc, ◌+◌, ◌-◌, ◌<◌, ◌≤◌, Bool, true, false, cond, List, [], ◌∷◌, ◌++◌, length, take, drop, Option, Some, None, IfSome, Ok, Err, Result, nat_le, slice_index, slice_set, refl}
use borrow.Rule.Slice.PartMut.{put_mid}
use Rattle.std.proofs.Common.{sym, ◌∙◌, ap, ap₂, subst, add_assoc, add-zero, arith}
use Rattle.std.specs.List.{flat_map}
use Rattle.std.proofs.lemmas.List.{append_assoc, append-nil, length-append, drop-drop, at_drop_more, take_more_set, length-drop, length-set, take_all, drop_all}
use Rattle.std.proofs.lemmas.Bool.{le-leb, leb-true}
use Rattle.std.proofs.ByRecursion.{All-drop, All-from_get_or}
use Rattle.column.specs.declared.fault.Cause.TheVariants.{Short, Bad}
use Rattle.column.specs.declared.fault.Fault.{Fault}
use Rattle.column.specs.declared.coded.Taken.{Taken}
use Rattle.column.specs.Widths.{listed, Bytes}
use Rattle.column.specs.Parsed.{Parsed, got, short, bad, fault, and_then, told, values_of}
use Rattle.column.specs.Interface.{overlaid, reading}
use Rattle.column.specs.Coded.{onto, each, coded, taken, Fitting, Coding}
use Rattle.column.proofs.Overlaid.{overlaid-append, length-overlaid, take-overlaid}

-- ---- writing

-- where the codes of the first i values stand from `place` up to `at`, those of the others are still to be put
abbrev pub Putting : (ℕ → List ℕ) → List ℕ → ℕ → List ℕ → ℕ → ℕ → List ℕ → Type 0
Putting code vs place old i at out =
    (at + length (flat_map code (drop i vs)) ≡ place + length (flat_map code vs)) × (overlaid at (flat_map code (drop i vs)) out ≡ overlaid place (flat_map code vs) old) × (place ≤ at) × (at ≤ length out) × (length out ≡ length old) × (take place out ≡ take place old)

-- a part from a place to the end is what stands behind the place
pub rest-whole : (at : ℕ) (xs : List ℕ) → take (length xs - at) (drop at xs) ≡ drop at xs
rest-whole at xs = take_all (length xs - at) (drop at xs) (omega (arith, length-drop at xs))

-- where a test chose whether there is an answer and there is one, the test held
given : {X : Type 0} (b : Bool) (x y : X) → Some y ≡ cond b (Some x) None → (b ≡ true) × (y ≡ x)
given true x y h = (refl, cc)
given false x y h = let z : ◌≡◌ {A = ℕ} 0 1 = cc in absurd (omega arith)

-- the next value's code was put into the part from a place on
pub putting-more : (code : ℕ → List ℕ) (vs : List ℕ) (place : ℕ) (old : List ℕ) (i at : ℕ) (out next : List ℕ) (o : Option ℕ) (size : ℕ) → i < length vs → Putting code vs place old i at out
    → o ≡ cond (nat_le (length (code (slice_index vs i))) (length (take (length out - at) (drop at out)))) (Some (length (code (slice_index vs i)))) None
    → IfSome o (λ n. next ≡ code (slice_index vs i) ++ drop n (take (length out - at) (drop at out))) → o ≡ Some size
    → Putting code vs place old (i + 1) (at + size) (put_mid at (length out - at) out next)
putting-more code vs place old i at out next o size h p answer bytes is =
    let v : ℕ = slice_index vs i in
    let part : take (length out - at) (drop at out) ≡ drop at out = rest-whole at out in
    let fits = given (nat_le (length (code v)) (length (take (length out - at) (drop at out)))) (length (code v)) size (sym is ∙ answer) in
    let room : at + size ≤ length out = omega (arith, leb-true (length (code v)) (length (take (length out - at) (drop at out))) fits.0, fits.1, ap length part, length-drop at out, p.3) in
    let put : next ≡ code v ++ drop size (take (length out - at) (drop at out)) = subst (λ (r : Option ℕ). IfSome r (λ n. next ≡ code v ++ drop n (take (length out - at) (drop at out)))) is bytes in
    let behind : drop size (take (length out - at) (drop at out)) ≡ drop (at + size) out = ap (drop size) part ∙ drop-drop size at out in
    let end : drop (length out - at) (drop at out) ≡ [] = drop_all (length out - at) (drop at out) (omega (arith, length-drop at out)) in
    let e : put_mid at (length out - at) out next ≡ overlaid at (code v) out =
    ap₂ (λ (xs ys : List ℕ). take at out ++ (xs ++ ys)) (put ∙ ap (λ (xs : List ℕ). code v ++ xs) behind) end
    ∙ ap (λ (xs : List ℕ). take at out ++ xs) (append-nil (code v ++ drop (at + size) out))
    ∙ ap (λ (n : ℕ). take at out ++ (code v ++ drop (at + n) out)) fits.1 in
    let here : flat_map code (drop i vs) ≡ code v ++ flat_map code (drop (i + 1) vs) = at_drop_more (flat_map code) vs i 0 h in
    let long : length (flat_map code (drop i vs)) ≡ length (code v) + length (flat_map code (drop (i + 1) vs)) = ap length here ∙ length-append (code v) _ in
    let same : length (put_mid at (length out - at) out next) ≡ length out = ap length e ∙ length-overlaid at _ out (omega (arith, room, fits.1)) in (
      omega (arith, long, p.0, fits.1),
      ap₂ (λ (n : ℕ) (xs : List ℕ). overlaid (at + n) (flat_map code (drop (i + 1) vs)) xs) fits.1 e ∙ sym (overlaid-append at (code v) (flat_map code (drop (i + 1) vs)) out (omega (arith, room, fits.1))) ∙ ap (λ (xs : List ℕ). overlaid at xs out) (sym here) ∙ p.1,
      omega (arith, p.2),
      omega (arith, same, room),
      same ∙ p.4,
      ap (take place) e ∙ take-overlaid place at _ out p.2 p.3 ∙ p.5,
    )

-- ---- reading

pub onto-onto : (xs ys : List ℕ) (k j : ℕ) (p : Parsed (List ℕ)) → onto xs k (onto ys j p) ≡ onto (xs ++ ys) (k + j) p
onto-onto xs ys k j (got zs used) = ap₂ got (sym (append_assoc xs ys zs)) (sym (add_assoc k j used))
onto-onto xs ys k j (short depth) = refl
onto-onto xs ys k j (bad depth) = refl

-- the first i values were read from the bytes between `place` and `at`
abbrev pub Reading : (List ℕ → Parsed ℕ) → ℕ → List ℕ → ℕ → ℕ → ℕ → List ℕ → Type 0
Reading one n input place i at values =
    (each one n (drop place input) ≡ onto (take i values) (at - place) (each one (n - i) (drop at input))) × (place ≤ at) × (at ≤ length input) × (length values ≡ n)

left : (n i : ℕ) → i < n → n - i ≡ suc (n - (i + 1))
left n i h = omega arith

none : (n i : ℕ) → n ≤ i → n - i ≡ 0
none n i h = omega arith

-- a fault of the next value is the whole list's
told-on : (layer : ℕ) (e : Fault) (p : Parsed ℕ) (vs : List ℕ) (size : ℕ) (next : ℕ → ℕ → Parsed (List ℕ)) → Err e ≡ taken layer p → Err e ≡ told layer (onto vs size (and_then p next))
told-on layer e (got v k) vs size next h = let z : ◌≡◌ {A = ℕ} 0 1 = cc in absurd (omega arith)
told-on layer e (short depth) vs size next h = let same : e ≡ fault Short (layer + depth) = cc in ap Err same
told-on layer e (bad depth) vs size next h = let same : e ≡ fault Bad (layer + depth) = cc in ap Err same

pub taken-got : (layer : ℕ) (p : Parsed ℕ) (t : Taken) → Ok t ≡ taken layer p → p ≡ got t.value t.size
taken-got layer (got v k) t h = cc
taken-got layer (short depth) t h = let z : ◌≡◌ {A = ℕ} 0 1 = cc in absurd (omega arith)
taken-got layer (bad depth) t h = let z : ◌≡◌ {A = ℕ} 0 1 = cc in absurd (omega arith)

-- what was taken lies within the input
pub taken-within : {code : ℕ → ℕ → List ℕ} {one : ℕ → List ℕ → Parsed ℕ} → Coding code one → (layer w : ℕ) (input : List ℕ) (at : ℕ) (t : Taken) → listed w ≡ true → ((i : ℕ) → slice_index input i < 256)
    → Ok t ≡ taken layer (one w (drop at input)) → t.size ≤ length (drop at input)
taken-within {code} {one} coding layer w input at t l small h =
    let bytes : Bytes input = All-from_get_or (λ b. b < 256) input 0 (λ i _. small i) in
    (subst (Fitting w (drop at input)) (taken-got layer (one w (drop at input)) t h) (coding.fitting w (drop at input) l (All-drop (λ b. b < 256) at input bytes))).1

-- one value more
pub reading-more : (one : List ℕ → Parsed ℕ) (n : ℕ) (input : List ℕ) (place i at : ℕ) (values : List ℕ) (v size : ℕ) → i < n → Reading one n input place i at values
    → one (drop at input) ≡ got v size → size ≤ length (drop at input) → Reading one n input place (i + 1) (at + size) (slice_set values i v)
reading-more one n input place i at values v size h r e fits =
    let step : each one (n - i) (drop at input) ≡ onto (v ∷ []) size (each one (n - (i + 1)) (drop (at + size) input)) =
    rw (left n i h, e, drop-drop size at input) refl in
    let room : size ≤ length input - at = simp length-drop at fits in (
      r.0 ∙ ap (onto (take i values) (at - place)) step ∙ onto-onto (take i values) (v ∷ []) (at - place) size _
          ∙ ap₂ (λ (xs : List ℕ) (k : ℕ). onto xs k (each one (n - (i + 1)) (drop (at + size) input))) (sym (take_more_set values i v (omega (arith, r.3)))) (omega (arith, r.1)),
      omega (arith, r.1),
      omega (arith, r.2),
      simp length-set r.3,
    )

-- all values were read
pub reading-all : (code : ℕ → ℕ → List ℕ) (one : ℕ → List ℕ → Parsed ℕ) (layer w n : ℕ) (input : List ℕ) (place i at : ℕ) (values : List ℕ) → n ≤ i → listed w ≡ true → place ≤ length input
    → Reading (one w) n input place i at values
    → (Ok (at - place) ≡ told layer (reading (coded code one) w n input place)) × (values ≡ values_of (reading (coded code one) w n input place))
reading-all code one layer w n input place i at values h t le r =
    let whole : each (one w) n (drop place input) ≡ got values (at - place) =
    r.0 ∙ rw (none n i h) (ap₂ got (append-nil (take i values) ∙ take_all i values (omega (arith, r.3))) (add-zero (at - place))) in
    let all : reading (coded code one) w n input place ≡ got values (at - place) = rw (le-leb place (length input) le, t) whole in
    (sym (ap (told layer) all), sym (ap values_of all))

-- the next value was refused
pub reading-none : (code : ℕ → ℕ → List ℕ) (one : ℕ → List ℕ → Parsed ℕ) (layer w n : ℕ) (input : List ℕ) (place i at : ℕ) (values : List ℕ) (e : Fault) → i < n → listed w ≡ true → place ≤ length input
    → Reading (one w) n input place i at values → Err e ≡ taken layer (one w (drop at input))
    → (q : Result ℕ Fault) → q ≡ Err e → q ≡ told layer (reading (coded code one) w n input place)
reading-none code one layer w n input place i at values e h t le r refuses q is =
    let step : each (one w) (n - i) (drop at input) ≡ and_then (one w (drop at input)) (λ v size. onto (v ∷ []) size (each (one w) (n - (i + 1)) (drop size (drop at input)))) =
    ap (λ k. each (one w) k (drop at input)) (left n i h) in
    is ∙ told-on layer e (one w (drop at input)) (take i values) (at - place) _ refuses ∙ ap (told layer) (sym (ap (onto (take i values) (at - place)) step) ∙ sym r.0 ∙ sym (rw (le-leb place (length input) le, t) refl))
