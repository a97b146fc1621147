-- Kinds that are one to a reader.
use Rattle.std.proofs.Common.{◌≡◌, ℕ, ◌+◌, ◌^◌, ◌<◌, ◌≤◌, true, cond, ltb, ◌⊎◌, List, sym, refl, ap, ◌∙◌, subst, inl, inr, arith}
use Rattle.std.specs.List.{AllByRecursion}
use Rattle.std.proofs.lemmas.Bool.{eqb-true}
use Rattle.std.proofs.lemmas.Bool.Decides.{nat_tests}
use Rattle.document.specs.declared.scalars.Scalar.{Scalar}
use Rattle.document.specs.declared.scalars.Scalar.TheVariants as scalars
use Rattle.document.specs.Calls.{width, num, Kind, SCALAR, TEXT, SEQ, MAP, ENUM, UNIT, TUPLE, Cell}
use Rattle.document.specs.Nodes.{Path, Step}
use Rattle.document.specs.Fetch.{columns_of}
use Rattle.document.specs.Reader.{Store, code, kin}
use Rattle.document.specs.Verdict.{kind_number}
use Rattle.document.proofs.Accepting.{kind-number-injective}
use Rattle.de.specs.declared.records.Node.{Node as Row}
use Rattle.de.specs.Moves.{Sheets}
use Rattle.de.specs.Reads.{ChildOf, Values, Children}

-- unsigned numbers in place of signed ones of the same width
unsigned : Kind → Kind
unsigned (SCALAR scalars.Bool) = SCALAR scalars.Bool
unsigned (SCALAR scalars.U8) = SCALAR scalars.U8
unsigned (SCALAR scalars.U16) = SCALAR scalars.U16
unsigned (SCALAR scalars.U32) = SCALAR scalars.U32
unsigned (SCALAR scalars.U64) = SCALAR scalars.U64
unsigned (SCALAR scalars.I8) = SCALAR scalars.U8
unsigned (SCALAR scalars.I16) = SCALAR scalars.U16
unsigned (SCALAR scalars.I32) = SCALAR scalars.U32
unsigned (SCALAR scalars.I64) = SCALAR scalars.U64
unsigned (SCALAR scalars.F32) = SCALAR scalars.F32
unsigned TEXT = TEXT
unsigned SEQ = SEQ
unsigned MAP = MAP
unsigned ENUM = ENUM
unsigned UNIT = UNIT
unsigned (TUPLE n) = TUPLE n

-- the number of the unsigned kind tells it
number-code : (K : Kind) → kind_number (unsigned K) ≡ cond (ltb (code K) 5) (code K) (4 + code K)
unfolding unsigned
number-code (SCALAR scalars.Bool) = refl
number-code (SCALAR scalars.U8) = refl
number-code (SCALAR scalars.U16) = refl
number-code (SCALAR scalars.U32) = refl
number-code (SCALAR scalars.U64) = refl
number-code (SCALAR scalars.I8) = refl
number-code (SCALAR scalars.I16) = refl
number-code (SCALAR scalars.I32) = refl
number-code (SCALAR scalars.I64) = refl
number-code (SCALAR scalars.F32) = refl
number-code TEXT = refl
number-code SEQ = refl
number-code MAP = refl
number-code ENUM = refl
number-code UNIT = refl
number-code (TUPLE n) = grind (arith, nat_tests)

-- kinds that are one to a reader have one unsigned kind
kin_unsigned : (J K : Kind) → kin J K ≡ true → unsigned J ≡ unsigned K
kin_unsigned J K e =
    kind-number-injective (unsigned J) (unsigned K) (number-code J ∙ ap (λ c. cond (ltb c 5) c (4 + c)) (eqb-true (code J) (code K) e) ∙ sym (number-code K))

-- two numbers of one width
abbrev OneWidth : Kind → Kind → Type 0
OneWidth J K = (j : Scalar) × (k : Scalar) × (J ≡ SCALAR j) × (K ≡ SCALAR k) × (width j ≡ width k)

-- the unsigned kind is the kind itself, or a number of the same width
unsigned_is : (K : Kind) → (unsigned K ≡ K) ⊎ OneWidth K (unsigned K)
unfolding unsigned
unsigned_is (SCALAR scalars.Bool) = inl refl
unsigned_is (SCALAR scalars.U8) = inl refl
unsigned_is (SCALAR scalars.U16) = inl refl
unsigned_is (SCALAR scalars.U32) = inl refl
unsigned_is (SCALAR scalars.U64) = inl refl
unsigned_is (SCALAR scalars.I8) = inr (scalars.I8, scalars.U8, refl, refl, refl)
unsigned_is (SCALAR scalars.I16) = inr (scalars.I16, scalars.U16, refl, refl, refl)
unsigned_is (SCALAR scalars.I32) = inr (scalars.I32, scalars.U32, refl, refl, refl)
unsigned_is (SCALAR scalars.I64) = inr (scalars.I64, scalars.U64, refl, refl, refl)
unsigned_is (SCALAR scalars.F32) = inl refl
unsigned_is TEXT = inl refl
unsigned_is SEQ = inl refl
unsigned_is MAP = inl refl
unsigned_is ENUM = inl refl
unsigned_is UNIT = inl refl
unsigned_is (TUPLE n) = inl refl

-- Kinds that are one to a reader are the same, or numbers of one width.
kin_either : (J K : Kind) → kin J K ≡ true → (J ≡ K) ⊎ OneWidth J K
kin_either J K e = go (kin_unsigned J K e) (unsigned_is J) (unsigned_is K)
  where
    go : unsigned J ≡ unsigned K → (unsigned J ≡ J) ⊎ OneWidth J (unsigned J) → (unsigned K ≡ K) ⊎ OneWidth K (unsigned K) → (J ≡ K) ⊎ OneWidth J K
    go q (inl a) (inl b) = inl (sym a ∙ q ∙ b)
    go q (inl a) (inr (k, u, kis, uis, w)) = inr (u, k, sym a ∙ q ∙ uis, kis, sym w)
    go q (inr (j, u, jis, uis, w)) (inl b) = inr (j, u, jis, sym b ∙ sym q ∙ uis, w)
    go q (inr (j, u, jis, uis, w)) (inr (k, v, kis, vis, x)) = let s : SCALAR u ≡ SCALAR v = sym uis ∙ q ∙ vis in let t : u ≡ v = cc in inr (j, k, jis, kis, w ∙ ap width t ∙ sym x)

-- What is the same for all numbers of one width holds of all kinds that are one to a reader.
pub kin_holds : (P : Kind → Type 0) → ((j k : Scalar) → width j ≡ width k → P (SCALAR j) → P (SCALAR k)) → (J K : Kind) → kin J K ≡ true → P J → P K
kin_holds P same J K e h = go (kin_either J K e)
  where
    go : (J ≡ K) ⊎ OneWidth J K → P K
    go (inl q) = subst P q h
    go (inr (j, k, jis, kis, w)) = subst P (sym kis) (same j k w (subst P jis h))

-- so it is with the values of a node ..
pub kin_values : (T : Sheets) (s : ℕ) (x : Row) (cs : List Cell) (J K : Kind) → kin J K ≡ true → Values T s x J cs → Values T s x K cs
kin_values T s x cs = kin_holds (λ K. Values T s x K cs) (λ j k w v. (v.0, subst (λ n. AllByRecursion (λ c. num c < 2 ^ n) cs) w v.1))

-- .. the children of a node
pub kin_children : (T : Sheets) (ps : List Path) (S : Store) (p : Path) (x : Row) (J K : Kind) → kin J K ≡ true → Children T ps S p x J → Children T ps S p x K
kin_children T ps S p x = kin_holds (Children T ps S p x) (λ j k w h. h)

-- .. the steps to them
pub kin_child : (s : Step) (J K : Kind) → kin J K ≡ true → ChildOf J s → ChildOf K s
kin_child s = kin_holds (λ K. ChildOf K s) (λ j k w h. h)

-- .. and the number of columns
pub kin_columns : (J K : Kind) → kin J K ≡ true → columns_of J ≤ columns_of K
kin_columns J K e = kin_holds (λ K. columns_of J ≤ columns_of K) (λ j k w h. h) J K e (omega arith)
