-- The rows of the table are the encodings of the scalar values.
use Rattle.std.proofs.Common.{◌≡◌, ℕ, ◌+◌, ◌-◌, ◌*◌, ◌/◌, ◌%◌, ◌<◌, ◌≤◌, List, [], ◌∷◌, get_or, refl, ◌∙◌, subst, inl, inr, ⊎_elim, arith, lit<}
use Rattle.std.specs.List.{flat_map, AllByRecursion}
use Rattle.std.proofs.lemmas.Bool.{lt-ltb, le-ltb, cases_lt}
use Rattle.std.proofs.ByRecursion.{all-has, has_get_or}
use Rattle.utf8.specs.Table.{Range, Row, table, In, Fits, WellFormed, empty, more, ◌‥◌}
use Rattle.utf8.specs.Scalars.{Scalar, encode, Encodes}

-- the encoding, by its length
one : (u : ℕ) → u < 0x80 → encode u ≡ u ∷ []
unfolding encode
one u h = rw (lt-ltb u 0x80 h)

two : (u : ℕ) → 0x80 ≤ u → u < 0x800 → encode u ≡ (0xc0 + u / 0x40) ∷ (0x80 + u % 0x40) ∷ []
unfolding encode
two u l h = rw (le-ltb u 0x80 l, lt-ltb u 0x800 h)

three : (u : ℕ) → 0x800 ≤ u → u < 0x10000 → encode u ≡ (0xe0 + u / 0x1000) ∷ (0x80 + u / 0x40 % 0x40) ∷ (0x80 + u % 0x40) ∷ []
unfolding encode
three u l h = rw (le-ltb u 0x80 (omega arith), le-ltb u 0x800 l, lt-ltb u 0x10000 h)

four : (u : ℕ) → 0x10000 ≤ u → encode u ≡ (0xf0 + u / 0x40000) ∷ (0x80 + u / 0x1000 % 0x40) ∷ (0x80 + u / 0x40 % 0x40) ∷ (0x80 + u % 0x40) ∷ []
unfolding encode
four u l = rw (le-ltb u 0x80 (omega arith), le-ltb u 0x800 (omega arith), le-ltb u 0x10000 l)

-- a row of the table that fits the encoding of u
abbrev Fitted : ℕ → Type 0
Fitted u = (k : ℕ) × (k < 9) × Fits (get_or table k []) (encode u)

-- u is below n, or not
under : {P : Type 0} (u n : ℕ) → (u < n → P) → (n ≤ u → P) → P
under u n f g = ⊎_elim f g (cases_lt u n)

-- each scalar value, by the row of its encoding
fitted : (u : ℕ) → Scalar u → Fitted u
fitted u s =
    under u 0x80 (λ h. (0, lit< tt, rw (one u h) (omega arith)))
    (λ l. under u 0x800 (λ h. (1, lit< tt, rw (two u l h) (omega arith)))
    (λ l. under u 0x1000 (λ h. (2, lit< tt, rw (three u l (omega arith)) (omega arith)))
    (λ l. under u 0xd000 (λ h. (3, lit< tt, rw (three u (omega arith) (omega arith)) (omega arith)))
    (λ l. under u 0xd800 (λ h. (4, lit< tt, rw (three u (omega arith) (omega arith)) (omega arith)))
    (λ l. under u 0x10000 (λ h. (5, lit< tt, rw (three u (omega arith) h) (omega arith)))
    (λ l. under u 0x40000 (λ h. (6, lit< tt, rw (four u l) (omega arith)))
    (λ l. under u 0x100000 (λ h. (7, lit< tt, rw (four u (omega arith)) (omega arith)))
    (λ l. (8, lit< tt, rw (four u (omega arith)) (omega arith))))))))))

-- the bytes encode a scalar value
abbrev Encoded : List ℕ → Type 0
Encoded bytes = (u : ℕ) × Scalar u × (encode u ≡ bytes)

-- every sequence that fits the row does
abbrev Meant : Row → Type 0
Meant row = (bytes : List ℕ) → Fits row bytes → Encoded bytes

-- the scalar value that the bytes of a sequence hold
abbrev value2 : ℕ → ℕ → ℕ
value2 a b = (a - 0xc0) * 0x40 + (b - 0x80)

abbrev value3 : ℕ → ℕ → ℕ → ℕ
value3 a b c = ((a - 0xe0) * 0x40 + (b - 0x80)) * 0x40 + (c - 0x80)

abbrev value4 : ℕ → ℕ → ℕ → ℕ → ℕ
value4 a b c d = (((a - 0xf0) * 0x40 + (b - 0x80)) * 0x40 + (c - 0x80)) * 0x40 + (d - 0x80)

-- the range of a byte that continues a sequence
abbrev tail : Range
tail = 0x80 ‥ 0xbf

-- a row, by its length: what is left to show is arithmetic of its first two ranges
one-meant : Meant (0x00 ‥ 0x7f ∷ [])
one-meant [] f = absurd f
one-meant (a ∷ []) f = (a, inl (omega arith), one a (omega arith))
one-meant (a ∷ (b ∷ bs)) f = absurd f.1

two-meant : Meant (0xc2 ‥ 0xdf ∷ tail ∷ [])
two-meant [] f = absurd f
two-meant (a ∷ []) f = absurd f.1
two-meant (a ∷ (b ∷ [])) f =
    let u = value2 a b in
    let x : 0xc0 + u / 0x40 ≡ a = omega arith in
    let y : 0x80 + u % 0x40 ≡ b = omega arith in
    (u, inl (omega arith), two u (omega arith) (omega arith) ∙ cc)
two-meant (a ∷ (b ∷ (c ∷ bs))) f = absurd f.1.1

three-meant : (g h : Range) → ((a b c : ℕ) → In g a → In h b → In tail c → (0xe0 ≤ a) × (a ≤ 0xef) × In tail b × (0x800 ≤ value3 a b c)) → ((a b c : ℕ) → In g a → In h b → In tail c → Scalar (value3 a b c)) → Meant (g ∷ h ∷ tail ∷ [])
three-meant g h k scalar [] f = absurd f
three-meant g h k scalar (a ∷ []) f = absurd f.1
three-meant g h k scalar (a ∷ (b ∷ [])) f = absurd f.1.1
three-meant g h k scalar (a ∷ (b ∷ (c ∷ []))) f =
    let u = value3 a b c in
    let p = k a b c f.0 f.1.0 f.1.1.0 in
    let x : 0xe0 + u / 0x1000 ≡ a = omega arith in
    let y : 0x80 + u / 0x40 % 0x40 ≡ b = omega arith in
    let z : 0x80 + u % 0x40 ≡ c = omega arith in
    (u, scalar a b c f.0 f.1.0 f.1.1.0, three u p.3 (omega arith) ∙ cc)
three-meant g h k scalar (a ∷ (b ∷ (c ∷ (d ∷ bs)))) f = absurd f.1.1.1

four-meant : (g h : Range) → ((a b c d : ℕ) → In g a → In h b → In tail c → In tail d → (0xf0 ≤ a) × In tail b × (0x10000 ≤ value4 a b c d) × (value4 a b c d ≤ 0x10ffff)) → Meant (g ∷ h ∷ tail ∷ tail ∷ [])
four-meant g h k [] f = absurd f
four-meant g h k (a ∷ []) f = absurd f.1
four-meant g h k (a ∷ (b ∷ [])) f = absurd f.1.1
four-meant g h k (a ∷ (b ∷ (c ∷ []))) f = absurd f.1.1.1
four-meant g h k (a ∷ (b ∷ (c ∷ (d ∷ [])))) f =
    let u = value4 a b c d in
    let p = k a b c d f.0 f.1.0 f.1.1.0 f.1.1.1.0 in
    let x : 0xf0 + u / 0x40000 ≡ a = omega arith in
    let y : 0x80 + u / 0x1000 % 0x40 ≡ b = omega arith in
    let z : 0x80 + u / 0x40 % 0x40 ≡ c = omega arith in
    let v : 0x80 + u % 0x40 ≡ d = omega arith in
    (u, inr (omega arith), four u p.2 ∙ cc)
four-meant g h k (a ∷ (b ∷ (c ∷ (d ∷ (e ∷ bs))))) f = absurd f.1.1.1.1

infixr 5 ◌also◌
-- a fact, and those that follow it
◌also◌ : {A B : Type 0} → A → B → A × B
a also b = (a, b)

-- row by row
table-meant : AllByRecursion Meant table
table-meant =
    one-meant
    also two-meant
    also three-meant (0xe0 ‥ 0xe0) (0xa0 ‥ 0xbf) (λ a b c x y z. omega arith) (λ a b c x y z. inl (omega arith))
    also three-meant (0xe1 ‥ 0xec) tail (λ a b c x y z. omega arith) (λ a b c x y z. inl (omega arith))
    also three-meant (0xed ‥ 0xed) (0x80 ‥ 0x9f) (λ a b c x y z. omega arith) (λ a b c x y z. inl (omega arith))
    also three-meant (0xee ‥ 0xef) tail (λ a b c x y z. omega arith) (λ a b c x y z. inr (omega arith))
    also four-meant (0xf0 ‥ 0xf0) (0x90 ‥ 0xbf) (λ a b c d x y z v. omega arith)
    also four-meant (0xf1 ‥ 0xf3) tail (λ a b c d x y z v. omega arith)
    also four-meant (0xf4 ‥ 0xf4) (0x80 ‥ 0x8f) (λ a b c d x y z v. omega arith)
    also tt

-- the text that well-formed bytes encode
pub to-encodes : {s : List ℕ} → WellFormed s → Encodes s
to-encodes empty = ([], tt, refl)
to-encodes (more row bytes rest h f w) =
    let p = all-has Meant table row table-meant h bytes f in
    let q = to-encodes w in
    let e = p.2 in
    let d = q.2 in
    (p.0 ∷ q.0, (p.1, q.1), cc)

-- encodings one after another are well-formed
joined-well : (us : List ℕ) → AllByRecursion Scalar us → WellFormed (flat_map encode us)
joined-well [] a = empty
joined-well (u ∷ us) a =
    let p = fitted u a.0 in
    more (get_or table p.0 []) (encode u) (flat_map encode us) (has_get_or table p.0 [] p.1) p.2 (joined-well us a.1)

-- a text that is encoded is well-formed
pub from-encodes : (s : List ℕ) → Encodes s → WellFormed s
from-encodes s e = subst WellFormed e.2 (joined-well e.0 e.1)
