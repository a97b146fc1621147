-- The open places as a list, and what a write or a place more or less does to it.
use Rattle.std.proofs.Common.{◌≡◌, ℕ, zero, suc, ◌+◌, ◌-◌, ◌<◌, ◌≤◌, ◌≢◌, true, List, [], ◌∷◌, length, get_or, set, Option, sym, refl, ap, ◌∙◌, add-one, arith, get_or-set_other, get_or-set_same}
use Rattle.std.proofs.lemmas.Bool.{lt-ltb}
use lib.Seq.{set-get_or}
use Rattle.std.specs.declared.option.Option.TheVariants as options
use Rattle.nodes.specs.declared.places.Place.{Place}
use Rattle.nodes.specs.declared.places.State.{State}
use Rattle.nodes.specs.declared.places.State.TheVariants.{Root, Items, Keys, Vals, Fields, Lone, One, Closing}
use Rattle.nodes.specs.declared.places.Places.{Places}
use Rattle.nodes.specs.Stack.{waiting, levels, stack, top, turned, settled, opening, has_room, rest, replaced}

-- the place that the document's value opens is the only one then
pub replaced-settled : (o : Option State) → settled (replaced o ∷ []) ≡ settled (opening o [])
replaced-settled options.None = refl
replaced-settled (options.Some s) = refl

-- a write past the open places
pub levels_set : (ps : List Place) (d i : ℕ) (x : Place) → d ≤ i → levels (set ps i x) d ≡ levels ps d
levels_set ps zero i x h = refl
levels_set ps (suc d) i x h =
    let ne : d ≢ i = omega arith in
    ap (λ p. p.state ∷ levels (set ps i x) d) (get_or-set_other ps i d x (waiting Root) ne) ∙ ap (λ ss. (get_or ps d (waiting Root)).state ∷ ss) (levels_set ps d i x (omega arith))

-- a place more
pub levels_push : (ps : List Place) (d : ℕ) (s : State) → d < length ps → levels (set ps d (waiting s)) (d + 1) ≡ s ∷ levels ps d
levels_push ps d s h =
    ap (levels (set ps d (waiting s))) (add-one d)
    ∙ ap (λ p. p.state ∷ levels (set ps d (waiting s)) d) (get_or-set_same ps d (waiting s) (waiting Root) h)
    ∙ ap (λ ss. s ∷ ss) (levels_set ps d d (waiting s) (omega arith))

-- the innermost place, and the rest
pub levels_top : (ps : List Place) (d : ℕ) → 0 < d → levels ps d ≡ (get_or ps (d - 1) (waiting Root)).state ∷ levels ps (d - 1)
levels_top ps d h = let e : d ≡ suc (d - 1) = omega arith in ap (levels ps) e

-- another state of the innermost place
pub stack-turned : (p : Places) (s : State) → 0 < p.depth → p.depth ≤ length p.table → stack (turned p s) ≡ s ∷ rest (stack p)
stack-turned p s h l =
    let e : p.depth ≡ (p.depth - 1) + 1 = omega arith in
    ap (levels (turned p s).table) e ∙ levels_push p.table (p.depth - 1) s (omega arith) ∙ ap (λ ss. s ∷ ss) (sym (ap rest (levels_top p.table p.depth h)))

-- the state that it has: no change
pub turned-same : (p : Places) → turned p (top p) ≡ p
turned-same p = ap (λ (ps : List Place). record { table = ps; depth = p.depth }) (set-get_or p.table (p.depth - 1) (waiting Root))

-- a place that does not close stays
pub stays : (s : State) (ss : List State) → s ≢ Closing → settled (s ∷ ss) ≡ s ∷ ss
stays Root ss ne = refl
stays (Items r n) ss ne = refl
stays (Keys r n) ss ne = refl
stays (Vals r n) ss ne = refl
stays (Fields r n) ss ne = refl
stays (Lone r n) ss ne = refl
stays (One r) ss ne = refl
stays Closing ss ne = absurd (ne refl)

-- there is room for what is opened where all that is open then is at most 32
pub room-to-open : (o : Option State) (d : ℕ) → length (opening o []) + d ≤ 32 → has_room o d ≡ true
room-to-open options.None d h = refl
room-to-open (options.Some s) d h = lt-ltb d 32 (omega arith)
