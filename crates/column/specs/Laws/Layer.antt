-- A layer is lawful over every lawful kind.
use Rattle.std.specs.Prelude.{◌≡◌, ℕ, true, List, ◌++◌, length, refl}
use Rattle.std.proofs.Common.{◌∙◌, ap, inl, inr}
use Rattle.std.proofs.lemmas.Bool.{cases_Bool}
use Rattle.column.specs.Widths.{listed, Below, Bytes}
use Rattle.column.specs.Parsed.{Parsed, got, short, bad}
use Rattle.column.specs.Meaning.{Meaning, Lawful, Yields}
use Rattle.column.specs.Layer.{changed, layer, Undone}

pub layer-lawful : (there back : ℕ → List ℕ → List ℕ) → Undone there back → (kind : Meaning) → Lawful kind → Lawful (layer there back kind)
layer-lawful there back undone kind law =
    record { empty = λ w l. ap (kind.image w) (undone.empty w) ∙ law.empty w l; reads = reads; bytes = λ w vs l b. law.bytes w (there w vs) l (undone.fits w vs b); yields = yields; unlisted = λ w n bs l. rw l refl }
  where
    reads : (w : ℕ) (vs rest : List ℕ) → listed w ≡ true → Below w vs → (layer there back kind).parse w (length vs) ((layer there back kind).image w vs ++ rest) ≡ got vs (length ((layer there back kind).image w vs))
    reads w vs rest l b =
        let low = law.reads w (there w vs) rest l (undone.fits w vs b) in
        let long = undone.as_long w vs in
        rw (l, ← long, low, undone.undoes w vs b) refl

    changed-yields : (w n : ℕ) (bs : List ℕ) (p : Parsed (List ℕ)) → Yields w n bs p → Yields w n bs (changed (back w) p)
    changed-yields w n bs (got ds used) y = (undone.back_as_long w ds ∙ y.0, undone.back_fits w ds y.1, y.2)
    changed-yields w n bs (short depth) y = tt
    changed-yields w n bs (bad depth) y = tt

    yields : (w n : ℕ) (bs : List ℕ) → Bytes bs → Yields w n bs ((layer there back kind).parse w n bs)
    yields w n bs b =
        elim (cases_Bool (listed w)) [ inl l ↦ rw l (changed-yields w n bs (kind.parse w n bs) (law.yields w n bs b)) | inr l ↦ rw l tt ]
