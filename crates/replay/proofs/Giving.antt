-- Calls given to a writer one after another.
use Rattle.std.specs.Vec.{vec_items}
use Rattle.std.proofs.Common.{◌≡◌, ℕ, suc, ◌+◌, ◌<◌, Bool, true, false, cond, List, [], ◌∷◌, ◌++◌, length, get_or, set, take, drop, ltb, is_ok, Ok, Err, Result, sym, refl, ap, ◌∙◌, subst, add-one, append_assoc, arith, drop-cons}
use Rattle.std.proofs.lemmas.List.{take_more_set, drop-set-lt, drop-drop, length-set}
use Rattle.std.proofs.lemmas.Bool.{cond-true, cond-false}
use Rattle.document.specs.declared.refusals.Refusal.{Refusal}
use Rattle.document.specs.declared.calls.Call.TheVariants as spoken
use Rattle.document.specs.Calls.{Call}
use Rattle.document.specs.Said.{said}
use Rattle.document.specs.Verdict.{Sizes, verdict}
use Rattle.ser.specs.declared.desk.Desk.{Desk}
use Rattle.ser.specs.declared.writer.Writer.{Writer}
use Rattle.ser.specs.declared.writer.calls.Parts.{Parts}
use Rattle.ser.specs.Moves.{blank_node, sheets}
use Rattle.ser.specs.Standing.{Stands, Told}
use Rattle.ser.specs.Tables.{sizes_of}
use Rattle.replay.specs.declared.steps.Step.{Step}
use Rattle.replay.specs.Given.{calls_of, takes, given, kept, marked, desk_of, sizes_at, sizes_for}

-- a step, where there is none
abbrev pub no_step : Step
no_step = record { call = spoken.Bool false; no_size = false; accepted = false }

-- the list once a call was given, as the writer stands for it
told_given : (sizes : Sizes) (old new : Desk) (done : List Call) (c : Call) (r : Result (Unit {0}) Refusal) → r ≡ verdict sizes done c → Stands old done → Told old new done c r → Stands new (given sizes done c)
told_given sizes old new done c r e st t = go r refl
  where
    go : (x : Result (Unit {0}) Refusal) → r ≡ x → Stands new (given sizes done c)
    go (Ok tt) is = subst (Stands new) (sym (cond-true (takes sizes done c) (done ++ c ∷ []) done (ap is_ok (sym e ∙ is)))) (t.taken is)
    go (Err d) is = subst (Stands new) (sym (cond-false (takes sizes done c) (done ++ c ∷ []) done (ap is_ok (sym e ∙ is)))) (subst (λ k. Stands k done) (sym (t.refused d is)) st)

-- The first i steps were given to a writer that stood for cs: it stands for what is kept of them, and they are marked.
pub record Given (old : Writer) (all : List Step) (w : Writer) (steps : List Step) (i : ℕ) (cs : List Call) : Type 0 where
  pub done : List Call
  pub stands : Stands (desk_of w) done
  pub sizes : sizes_at w ≡ sizes_at old
  pub kept_on : kept (sizes_at old) done (calls_of (drop i all)) ≡ kept (sizes_at old) cs (calls_of all)
  pub marked_on : take i steps ++ marked (sizes_at old) done (drop i all) ≡ marked (sizes_at old) cs all

-- .. whatever it stood for; the others are as they were
pub record Giving (old : Writer) (all : List Step) (w : Writer) (steps : List Step) (i : ℕ) : Type 0 where
  pub size : length steps ≡ length all
  pub rest : drop i steps ≡ drop i all
  pub went : (cs : List Call) → Stands (desk_of old) cs → Given old all w steps i cs

-- one more
pub gives-more : (old w v : Writer) (all steps : List Step) (i : ℕ) (r : Result (Unit {0}) Refusal) (b : Bool) → i < length all → Giving old all w steps i
    → ((cs : List Call) → Stands (desk_of w) cs → Told (desk_of w) (desk_of v) cs (said (get_or steps i no_step).call) r) → b ≡ is_ok r
    → Giving old all v (set steps i (record { call = (get_or steps i no_step).call; no_size = (get_or steps i no_step).no_size; accepted = b })) (i + 1)
gives-more old w v all steps i r b l g told accepted =
    record {
      size = length-set steps i s' ∙ g.size;
      rest = drop-set-lt (i + 1) steps i s' (omega arith) ∙ further;
      went = λ cs st. more cs (g.went cs st);
    }
  where
    S : Sizes
    S = sizes_at old

    s : Step
    s = get_or steps i no_step

    s' : Step
    s' = record { call = s.call; no_size = s.no_size; accepted = b }

    within : i < length steps
    within = omega (arith, g.size)

    -- the step and those after it
    here : drop i all ≡ s ∷ drop (suc i) steps
    here = sym g.rest ∙ drop-cons steps i no_step within

    further : drop (i + 1) steps ≡ drop (i + 1) all
    further = ap (λ k. drop k steps) (add-one i) ∙ ap (drop 1) (sym here) ∙ drop-drop 1 i all

    rest_all : drop i all ≡ s ∷ drop (i + 1) all
    rest_all = here ∙ ap (λ xs. s ∷ xs) (ap (λ k. drop k steps) (sym (add-one i)) ∙ further)

    more : (cs : List Call) → Given old all w steps i cs → Given old all v (set steps i s') (i + 1) cs
    more cs d =
        let t = told d.done d.stands in
        let told_is : r ≡ verdict S d.done (said s.call) = t.told ∙ ap (λ z. verdict z d.done (said s.call)) d.sizes in
        record {
          done = given S d.done (said s.call);
          stands = told_given S (desk_of w) (desk_of v) d.done (said s.call) r told_is d.stands t;
          sizes = t.sizes ∙ d.sizes;
          kept_on = sym (ap (λ xs. kept S d.done (calls_of xs)) rest_all) ∙ d.kept_on;
          marked_on =
              ap (λ xs. xs ++ marked S (given S d.done (said s.call)) (drop (i + 1) all)) (take_more_set steps i s' within)
              ∙ append_assoc (take i steps) (s' ∷ []) (marked S (given S d.done (said s.call)) (drop (i + 1) all))
              ∙ ap (λ z. take i steps ++ (record { call = s.call; no_size = s.no_size; accepted = z } ∷ marked S (given S d.done (said s.call)) (drop (i + 1) all))) (accepted ∙ ap is_ok told_is)
              ∙ sym (ap (λ xs. take i steps ++ marked S d.done xs) rest_all)
              ∙ d.marked_on;
        }

-- a new writer has tables of the same lengths
pub new-sizes : (w : Writer) (t : Parts) → vec_items w.desk.tables.nodes ≡ cond (ltb 1 (length (vec_items t.nodes))) (set (vec_items t.nodes) 1 blank_node) (vec_items t.nodes) → w.desk.tables.cells ≡ t.cells → w.desk.tables.text ≡ t.text → sizes_at w ≡ sizes_for t
new-sizes w t n c x =
    ap (λ k. let z : Sizes = record { nodes = k; cells = length (vec_items w.desk.tables.cells); text = length (vec_items w.desk.tables.text) } in z) (ap length n ∙ same (ltb 1 (length (vec_items t.nodes))))
    ∙ ap (λ v. let z : Sizes = record { nodes = length (vec_items t.nodes); cells = length (vec_items v); text = length (vec_items w.desk.tables.text) } in z) c
    ∙ ap (λ v. let z : Sizes = record { nodes = length (vec_items t.nodes); cells = length (vec_items t.cells); text = length (vec_items v) } in z) x
  where
    same : (b : Bool) → length (cond b (set (vec_items t.nodes) 1 blank_node) (vec_items t.nodes)) ≡ length (vec_items t.nodes)
    same true = length-set (vec_items t.nodes) 1 blank_node
    same false = refl

-- a closed writer gives back tables of its own lengths
pub back-sizes : (sizes : Sizes) (d : Desk) (u : Parts) → u.nodes ≡ d.tables.nodes → u.cells ≡ d.tables.cells → u.text ≡ d.tables.text → sizes_of (sheets d.tables) ≡ sizes → sizes_for u ≡ sizes
back-sizes sizes d u n c x s =
    ap (λ v. let z : Sizes = record { nodes = length (vec_items v); cells = length (vec_items u.cells); text = length (vec_items u.text) } in z) n
    ∙ ap (λ v. let z : Sizes = record { nodes = length (vec_items d.tables.nodes); cells = length (vec_items v); text = length (vec_items u.text) } in z) c
    ∙ ap (λ v. let z : Sizes = record { nodes = length (vec_items d.tables.nodes); cells = length (vec_items d.tables.cells); text = length (vec_items v) } in z) x
    ∙ s
