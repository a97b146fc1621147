-- What a writer's own invariant gives its calls: that they are safe, and what write-out answers and leaves.
use Rattle.std.proofs.Common.{◌≡◌, ℕ, ◌-◌, ◌<◌, Bool, false, eqb, List, [], ◌∷◌, length, Result, sym, refl, ap, ◌∙◌, ⊎_elim, arith}
use mathlib.Core.Logic.{∥∥₁_elim}
use mathlib.Core.HLevel.{×_prop}
use native.Mathlib.Bridge.{le_prop}
use Rattle.std.proofs.lemmas.Bool.{cases_eq, eq-eqb, ne_eqb}
use Rattle.column.specs.Meaning.{Meaning}
use Rattle.document.specs.declared.refusals.Refusal.{Refusal}
use Rattle.document.specs.Calls.{Call}
use Rattle.document.specs.Bytes.{firsts}
use Rattle.document.specs.Places.{Place, start}
use Rattle.document.specs.Trace.{trace, places_after}
use Rattle.document.specs.Tables.{cells_of}
use Rattle.document.specs.WriteOut.{none_open}
use Rattle.document.proofs.Accepting.{accepted-held}
use Rattle.document.proofs.Allotting.{length-nodes}
use Rattle.ser.specs.declared.desk.Desk.{Desk}
use Rattle.ser.specs.Moves.{sheets}
use Rattle.ser.specs.Tables.{sizes_of}
use Rattle.ser.specs.Safe.{Safe}
use Rattle.ser.specs.Out.{image_of, OutSafe, begins, wrote, scratch_after, output_after}
use Rattle.ser.specs.Standing.{Stands, WrittenOut}
use Rattle.ser.proofs.Found.{length-slots}
use Rattle.ser.proofs.Keeping.{safe-rows, safe, safe-prop}
use Rattle.ser.proofs.Telling.{open_done}
use Rattle.ser.proofs.OutSafe.{out-safe-prop}
use Rattle.ser.proofs.Imaging.{image-bytes, wrote-out, out-safe}

-- a writer that stands for some calls is safe
pub kept-safe : (d : Desk) → ∥ ((cs : List Call) × Stands d cs) ∥₁ → Safe d
kept-safe d h = ∥∥₁_elim h (safe-prop d) (λ s. safe d s.0 s.1)

-- what write-out needs of the tables
abbrev pub Ready : Desk → Type 0
Ready d = (0 < d.tables.taken) × OutSafe (sheets d.tables) (d.tables.taken - 1)

-- tables that stand for some calls can be written out
ready : (d : Desk) (cs : List Call) → Stands d cs → Ready d
ready d cs S =
    let T = sheets d.tables in
    let R = safe-rows T cs S.accepted S.holds in
    let H = accepted-held (sizes_of T) cs S.accepted in (
      R.some-cells,
      ⊎_elim
          (λ e. let none : T.marked ≡ 0 = S.holds.holding.marked ∙ ap (λ ds. length (firsts (trace start ds))) e in
          record { listed = λ j h. absurd (omega arith); within = λ j h. absurd (omega arith); safe = λ j h. absurd (omega arith) })
          (λ w. out-safe T (trace start cs) (T.taken - 1) S.holds H.sound (omega (arith, w.0, length-nodes (trace start cs), S.holds.holding.used)) R.few-marked R.filled (omega arith))
          H.within,
    )

pub kept-ready : (d : Desk) → ∥ ((cs : List Call) × Stands d cs) ∥₁ → Ready d
kept-ready d h = ∥∥₁_elim h (×_prop le_prop (out-safe-prop (sheets d.tables) (d.tables.taken - 1))) (λ s. ready d s.0 s.1)

-- no place is open exactly where the document is complete
complete-is : (d : Desk) (cs : List Call) → Stands d cs → eqb d.places.depth 0 ≡ none_open (places_after start cs)
complete-is d cs S = ⊎_elim
    (λ e. eq-eqb d.places.depth 0 e ∙ sym (ap none_open ((open_done d cs S).0 e)))
    (λ ne. ne_eqb d.places.depth 0 ne ∙ sym (some-open (places_after start cs) (λ e. ne ((open_done d cs S).1 e))))
    (cases_eq d.places.depth 0)
  where
    some-open : (fs : List Place) → (fs ≡ [] → ⊥) → none_open fs ≡ false
    some-open [] h = absurd (h refl)
    some-open (f ∷ fs) h = refl

-- what write-out over the tables says of the calls
pub writes : (col : Meaning) (d : Desk) (cs : List Call) (complete : Bool) (scratch scratch' output output' : List ℕ) (r : Result ℕ Refusal) → Stands d cs → complete ≡ eqb d.places.depth 0
    → r ≡ wrote complete (d.tables.taken - 1) (image_of col (sheets d.tables)) scratch output
    → scratch' ≡ scratch_after (begins complete (d.tables.taken - 1) scratch) scratch
    → output' ≡ output_after (begins complete (d.tables.taken - 1) scratch) (image_of col (sheets d.tables)) output
    → WrittenOut col cs scratch scratch' output output' r
writes col d cs complete scratch scratch' output output' r S c a s o =
    let T = sheets d.tables in
    let sound = (accepted-held (sizes_of T) cs S.accepted).sound in
    let done : complete ≡ none_open (places_after start cs) = c ∙ complete-is d cs S in
    let taken : T.taken - 1 ≡ cells_of (trace start cs) = omega (arith, S.holds.holding.taken, length-slots (trace start cs)) in
    let begun : begins complete (T.taken - 1) scratch ≡ begins (none_open (places_after start cs)) (cells_of (trace start cs)) scratch = ap (λ b. begins b (T.taken - 1) scratch) done ∙ ap (λ n. begins (none_open (places_after start cs)) n scratch) taken in
    record {
      answer = a ∙ ap (λ b. wrote b (T.taken - 1) (image_of col T) scratch output) done ∙ wrote-out col T cs scratch output S.holds sound taken;
      zeroed = s ∙ ap (λ b. scratch_after b scratch) begun;
      written = o ∙ ap (λ b. output_after b (image_of col T) output) begun ∙ ap (λ bs. output_after (begins (none_open (places_after start cs)) (cells_of (trace start cs)) scratch) bs output) (image-bytes col T (trace start cs) S.holds sound);
    }
