-- Kinds that put one value after another are lawful.
use Rattle.std.specs.Prelude.{◌≡◌, ℕ, zero, suc, ◌^◌, ◌<◌, ◌≤◌, true, List, [], ◌∷◌, ◌++◌, length, drop, refl}
use Rattle.std.proofs.Common.{ap, inl, inr, arith}
use Rattle.std.specs.List.{flat_map}
use Rattle.std.proofs.lemmas.List.{append_assoc, length-append, drop_at, length-drop}
use Rattle.std.proofs.lemmas.Bool.{cases_Bool}
use Rattle.std.proofs.ByRecursion.{All-append, All-drop}
use Rattle.column.specs.Widths.{listed, Below, Bytes}
use Rattle.column.specs.Parsed.{Parsed, got, short, bad, and_then}
use Rattle.column.specs.Meaning.{Lawful, Yields}
use Rattle.column.specs.Coded.{onto, each, coded, Fitting, Coding}

each-reads : {code : ℕ → ℕ → List ℕ} {one : ℕ → List ℕ → Parsed ℕ} → Coding code one → (w : ℕ) → listed w ≡ true → (vs rest : List ℕ) → Below w vs
    → each (one w) (length vs) (flat_map (code w) vs ++ rest) ≡ got vs (length (flat_map (code w) vs))
each-reads coding w l [] rest b = refl
each-reads {code} {one} coding w l (v ∷ vs) rest b =
    rw (append_assoc (code w v) (flat_map (code w) vs) rest, coding.reads w v (flat_map (code w) vs ++ rest) l b.0, drop_at (code w v) (flat_map (code w) vs ++ rest) _ refl, each-reads coding w l vs rest b.1, length-append (code w v) (flat_map (code w) vs))
    refl

each-bytes : {code : ℕ → ℕ → List ℕ} {one : ℕ → List ℕ → Parsed ℕ} → Coding code one → (w : ℕ) → listed w ≡ true → (vs : List ℕ) → Below w vs → Bytes (flat_map (code w) vs)
each-bytes coding w l [] b = tt
each-bytes {code} coding w l (v ∷ vs) b = All-append (λ x. x < 256) (code w v) (flat_map (code w) vs) (coding.bytes w v l b.0) (each-bytes coding w l vs b.1)

each-yields : {code : ℕ → ℕ → List ℕ} {one : ℕ → List ℕ → Parsed ℕ} → Coding code one → (w : ℕ) → listed w ≡ true → (n : ℕ) (bs : List ℕ) → Bytes bs → Yields w n bs (each (one w) n bs)
each-yields coding w l zero bs b = (refl, tt, omega arith)
each-yields {code} {one} coding w l (suc n) bs b =
    first (λ size. each-yields coding w l n (drop size bs) (All-drop (λ x. x < 256) size bs b)) (one w bs) (coding.fitting w bs l b)
  where
    later : (v size : ℕ) → v < 2 ^ w → size ≤ length bs → (p : Parsed (List ℕ)) → Yields w n (drop size bs) p → Yields w (suc n) bs (onto (v ∷ []) size p)
    later v size f k (got vs used) y = (ap suc y.0, (f, y.1), omega (arith, length-drop size bs, y.2))
    later v size f k (short depth) y = tt
    later v size f k (bad depth) y = tt

    first : ((size : ℕ) → Yields w n (drop size bs) (each (one w) n (drop size bs))) → (p : Parsed ℕ) → Fitting w bs p → Yields w (suc n) bs (and_then p (λ v size. onto (v ∷ []) size (each (one w) n (drop size bs))))
    first more (got v size) f = later v size f.0 f.1 (each (one w) n (drop size bs)) (more size)
    first more (short depth) f = tt
    first more (bad depth) f = tt

pub coded-lawful : {code : ℕ → ℕ → List ℕ} {one : ℕ → List ℕ → Parsed ℕ} → Coding code one → Lawful (coded code one)
coded-lawful {code} {one} coding =
    record { empty = λ w l. refl; reads = λ w vs rest l b. rw l (each-reads coding w l vs rest b); bytes = λ w vs l b. each-bytes coding w l vs b; yields = yields; unlisted = λ w n bs l. rw l refl }
  where
    yields : (w n : ℕ) (bs : List ℕ) → Bytes bs → Yields w n bs ((coded code one).parse w n bs)
    yields w n bs b =
        elim (cases_Bool (listed w)) [ inl l ↦ rw l (each-yields coding w l n bs b) | inr l ↦ rw l tt ]
