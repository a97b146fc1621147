-- The short kind: its forms, that a value's own has the fewest bytes, and that the kind is lawful.
use Rattle.std.specs.Prelude.{◌≡◌, ℕ, zero, suc, ◌+◌, ◌-◌, ◌/◌, ◌%◌, ◌^◌, ◌<◌, ◌≤◌, true, cond, ◌⊎◌, List, [], ◌∷◌, ◌++◌, length, take, nat_lt, slice_index, refl}
use Rattle.std.proofs.Common.{sym, ◌∙◌, ap, inl, inr, arith, pow_mono}
use Rattle.std.proofs.lemmas.Bool.{lt-ltb, le-ltb, ltb-true, cases_lt, cases_Bool}
use Rattle.column.specs.Widths.{listed, Bytes}
use Rattle.column.specs.Parsed.{Parsed, got, short, bad, and_then}
use Rattle.column.specs.Coded.{onto, Coding, Fitting}
use Rattle.column.specs.Digits.{total}
use Rattle.column.specs.Short.{Form, Fewest, groups, leb128, front, short_one}
use Rattle.column.specs.Laws.Listed.{width-most}

-- ---- a value's groups

pub groups-small : (k v : ℕ) → v < 128 → groups k v ≡ v ∷ []
groups-small zero v h = refl
groups-small (suc k) v h = rw (lt-ltb v 128 h) refl

pub groups-more : (k v : ℕ) → 128 ≤ v → groups (suc k) v ≡ (v % 128 + 128) ∷ groups k (v / 128)
groups-more k v h = rw (le-ltb v 128 h) refl

length-groups : (k v : ℕ) → length (groups k v) ≤ suc k
length-groups zero v = omega arith
length-groups (suc k) v =
    elim (cases_lt v 128) [
      | inl s ↦ rw (groups-small (suc k) v s) (omega arith)
      | inr m ↦ rw (groups-more k v m) (omega (arith, length-groups k (v / 128)))
    ]

pub length-leb : (v : ℕ) → length (leb128 v) ≤ 10
unfolding leb128
length-leb v = length-groups 9 v

-- ---- forms

form-more : (b : ℕ) (bs : List ℕ) → 128 ≤ b → b < 256 → Form bs → Form (b ∷ bs)
form-more b [] h l f = absurd f
form-more b (c ∷ bs) h l f = (h, l, f)

form-bytes : (bs : List ℕ) → Form bs → Bytes bs
form-bytes [] f = absurd f
form-bytes (b ∷ []) f = (omega arith, tt)
form-bytes (b ∷ (c ∷ bs)) f = (f.1, form-bytes (c ∷ bs) f.2)

pub form-some : (bs : List ℕ) → Form bs → 1 ≤ length bs
form-some [] f = absurd f
form-some (b ∷ bs) f = omega arith

groups-form : (k v : ℕ) → v < 128 ^ suc k → Form (groups k v)
groups-form zero v h = omega arith
groups-form (suc k) v h =
    elim (cases_lt v 128) [
      | inl s ↦ rw (groups-small (suc k) v s) s
      | inr m ↦ rw (groups-more k v m) (form-more (v % 128 + 128) (groups k (v / 128)) (omega arith) (omega arith) (groups-form k (v / 128) (omega arith)))
    ]

groups-total : (k v : ℕ) → v < 128 ^ suc k → total 128 (groups k v) ≡ v
groups-total zero v h = omega arith
groups-total (suc k) v h =
    elim (cases_lt v 128) [
      | inl s ↦ rw (groups-small (suc k) v s) (omega arith)
      | inr m ↦ rw (groups-more k v m) (omega (arith, groups-total k (v / 128) (omega arith)))
    ]

-- no form of a value is shorter than its groups
groups-least : (k v : ℕ) (other : List ℕ) → Form other → total 128 other ≡ v → length (groups k v) ≤ length other
groups-least zero v other f e = omega (arith, form-some other f)
groups-least (suc k) v [] f e = absurd f
groups-least (suc k) v (b ∷ []) f e = rw (groups-small (suc k) v (omega (arith, e))) (omega arith)
groups-least (suc k) v (b ∷ (c ∷ bs)) f e =
    elim (cases_lt v 128) [
      | inl s ↦ rw (groups-small (suc k) v s) (omega arith)
      | inr m ↦ rw (groups-more k v m) (omega (arith, groups-least k (v / 128) (c ∷ bs) f.2 (omega (arith, e))))
    ]

pub leb-fewest : (v : ℕ) → v < 2 ^ 64 → Fewest v (leb128 v)
unfolding leb128
leb-fewest v h = record { form = groups-form 9 v (omega arith); value = groups-total 9 v (omega arith); least = groups-least 9 v }

-- ---- the form in front

front-form : (k : ℕ) (form rest : List ℕ) → Form form → length form ≤ k → front k (form ++ rest) ≡ got form (length form)
front-form k [] rest f h = absurd f
front-form zero (b ∷ bs) rest f h = absurd (omega arith)
front-form (suc k) (b ∷ []) rest f h = rw (lt-ltb b 128 f) refl
front-form (suc k) (b ∷ (c ∷ bs)) rest f h = rw (le-ltb b 128 f.0, front-form k (c ∷ bs) rest f.2 (omega arith)) (ap (got (b ∷ (c ∷ bs))) (omega arith))

-- what stands in front: its bytes, at most k and no more than there are, and a last one without mark
abbrev pub Fronted : ℕ → List ℕ → Parsed (List ℕ) → Type 0
Fronted k bs (got form used) = (form ≡ take used bs) × (1 ≤ used) × (used ≤ k) × (used ≤ length bs) × (slice_index bs (used - 1) < 128)
Fronted k bs (short depth) = Unit {0}
Fronted k bs (bad depth) = Unit {0}

pub fronted : (k : ℕ) (bs : List ℕ) → Fronted k bs (front k bs)
fronted zero bs = tt
fronted (suc k) [] = tt
fronted (suc k) (b ∷ bs) = first (fronted k bs) (cases_lt b 128)
  where
    longer : (p : Parsed (List ℕ)) → Fronted k bs p → Fronted (suc k) (b ∷ bs) (onto (b ∷ []) 1 p)
    longer (got form zero) f = absurd (omega (arith, f.1))
    longer (got form (suc used)) f =
        let next : 1 + suc used ≡ suc (suc used) = omega arith in
        let there : 1 + suc used - 1 ≡ suc used = omega arith in
        let here : suc used - 1 ≡ used = omega arith in (
          ap (λ (bytes : List ℕ). b ∷ bytes) f.0 ∙ ap (λ n. take n (b ∷ bs)) (sym next),
          omega arith,
          omega (arith, f.2),
          omega (arith, f.3),
          rw there (rw here at f.4),
        )
    longer (short depth) f = tt
    longer (bad depth) f = tt

    first : Fronted k bs (front k bs) → (b < 128) ⊎ (128 ≤ b) → Fronted (suc k) (b ∷ bs) (cond (nat_lt b 128) (got (b ∷ []) 1) (onto (b ∷ []) 1 (front k bs)))
    first f (inl s) = rw (lt-ltb b 128 s) (refl, omega arith, omega arith, omega arith, s)
    first f (inr m) = rw (le-ltb b 128 m) (longer (front k bs) f)

-- ---- the laws

judged : (w : ℕ) (bs : List ℕ) (p : Parsed (List ℕ)) → Fronted 10 bs p → Fitting w bs (and_then p (λ form used. cond (nat_lt (total 128 form) (2 ^ w)) (got (total 128 form) used) (bad 0)))
judged w bs (got form used) f =
    elim (cases_Bool (nat_lt (total 128 form) (2 ^ w))) [ inl e ↦ rw e (ltb-true (total 128 form) (2 ^ w) e, f.3) | inr e ↦ rw e tt ]
judged w bs (short depth) f = tt
judged w bs (bad depth) f = tt

pub short-coding : Coding (λ w. leb128) short_one
short-coding = record { reads = reads; bytes = λ w v l b. form-bytes (leb128 v) (leb-fewest v (small w v l b)).form; fitting = λ w bs l b. judged w bs (front 10 bs) (fronted 10 bs) }
  where
    small : (w v : ℕ) → listed w ≡ true → v < 2 ^ w → v < 2 ^ 64
    small w v l b = omega (arith, pow_mono (width-most w l))

    reads : (w v : ℕ) (rest : List ℕ) → listed w ≡ true → v < 2 ^ w → short_one w (leb128 v ++ rest) ≡ got v (length (leb128 v))
    reads w v rest l b =
        let few = leb-fewest v (small w v l b) in
        rw (front-form 10 (leb128 v) rest few.form (length-leb v), few.value, lt-ltb v (2 ^ w) b) refl
