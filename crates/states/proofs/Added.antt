-- Calls that a writer took, one after another.
use Rattle.std.proofs.Common.{◌≡◌, ℕ, ◌+◌, ◌<◌, ◌≤◌, List, [], ◌∷◌, ◌++◌, length, take, drop, get_or, Ok, Err, Result, IsErrAnd, refl, sym, ap, ◌∙◌, subst, append-nil, append_assoc}
use Rattle.std.proofs.lemmas.List.{take_more, take_all, take-append-drop, flat_map_more}
use Rattle.std.proofs.lemmas.Grind.{flat_map-append}
use Rattle.std.specs.List.{flat_map}
use Rattle.column.proofs.Choice.{passed_on}
use Rattle.document.specs.declared.refusals.Refusal.{Refusal}
use Rattle.document.specs.Calls.{Call, end}
use Rattle.document.specs.Verdict.{Sizes, verdict}
use Rattle.ser.specs.declared.writer.Writer.{Writer}
use Rattle.ser.specs.Standing.{Stands, Told}
use Rattle.replay.specs.Given.{sizes_at}
use Rattle.states.specs.Adding.{Adds, Stopped, Stops, Tells, TellsAll}

-- what a writer tells of a call, whatever it stood for
abbrev pub Answers : Writer → Writer → Call → Result (Unit {0}) Refusal → Type 0
Answers old new c r = (cs : List Call) → Stands old.desk cs → Told old.desk new.desk cs c r

-- a call is taken or refused
pub call-told : (a b : Writer) (c : Call) (r : Result (Unit {0}) Refusal) → Answers a b c r → Tells a b (c ∷ []) r
call-told a b c (Ok done) told = record { stands = λ cs stands. (told cs stands).taken refl; sizes = λ cs stands. (told cs stands).sizes }
call-told a b c (Err refusal) told =
    record {
      stopped =
          λ cs stands.
          let same : b.desk ≡ a.desk = (told cs stands).refused refusal refl in
          let none : cs ++ [] ≡ cs = append-nil cs in
          record {
            before = [];
            refused = c;
            after = [];
            parts = refl;
            stands = rw (same, none) stands;
            told = rw none ((told cs stands).told);
            kept = (told cs stands).sizes;
          };
    }

-- calls that were taken, and then calls that are told
pub more-told : {a b : Writer} {xs : List Call} (d : Writer) (ys : List Call) (r : Result (Unit {0}) Refusal) → Adds a b xs → Tells b d ys r → Tells a d (xs ++ ys) r
more-told {a = a} {xs = xs} d ys (Ok done) first next =
    record {
      stands = λ cs stands. subst (Stands d.desk) (append_assoc cs xs ys) (next.stands (cs ++ xs) (first.stands cs stands));
      sizes = λ cs stands. next.sizes (cs ++ xs) (first.stands cs stands) ∙ first.sizes cs stands;
    }
more-told {a = a} {xs = xs} d ys (Err refusal) first next =
    record {
      stopped =
          λ cs stands.
          let s = next.stopped (cs ++ xs) (first.stands cs stands) in
          record {
            before = xs ++ s.before;
            refused = s.refused;
            after = s.after;
            parts = ap (λ (zs : List Call). xs ++ zs) s.parts ∙ sym (append_assoc xs s.before (s.refused ∷ s.after));
            stands = subst (Stands d.desk) (append_assoc cs xs s.before) s.stands;
            told = s.told ∙ ap (λ (z : Sizes). verdict z ((cs ++ xs) ++ s.before) s.refused) (first.sizes cs stands) ∙ ap (λ (zs : List Call). verdict (sizes_at a) zs s.refused) (append_assoc cs xs s.before);
            kept = s.kept ∙ first.sizes cs stands;
          };
    }

-- a refusal ends the telling: what would have followed is not told
pub rest-untold : (a b : Writer) (xs ys : List Call) (e : Refusal) → Stops a b xs e → Stops a b (xs ++ ys) e
rest-untold a b xs ys e first =
    record {
      stopped =
          λ cs stands.
          let s = first.stopped cs stands in
          record {
            before = s.before;
            refused = s.refused;
            after = s.after ++ ys;
            parts = ap (λ (zs : List Call). zs ++ ys) s.parts ∙ append_assoc s.before (s.refused ∷ s.after) ys;
            stands = s.stands;
            told = s.told;
            kept = s.kept;
          };
    }

-- .. and the answer is that refusal
pub ended : {a b : Writer} {xs : List Call} (ys : List Call) (e : Refusal) (r : Result (Unit {0}) Refusal) → IsErrAnd r (λ y. y ≡ e) → Stops a b xs e → Tells a b (xs ++ ys) r
ended {a = a} {b = b} {xs = xs} ys e r is-e first = rw (passed_on r e is-e) (rest-untold a b xs ys e first)

-- one call more is told
pub call-next : {a b : Writer} {xs : List Call} (d : Writer) (c : Call) (r : Result (Unit {0}) Refusal) → Adds a b xs → Answers b d c r → Tells a d (xs ++ c ∷ []) r
call-next {b = b} d c r before told = more-told d (c ∷ []) r before (call-told b d c r told)

module _ {X : Type 0} (f : X → List Call) (c : Call) (xs : List X) where
  -- the calls of a list's first n elements
  abbrev first : ℕ → List Call
  first n = c ∷ flat_map f (take n xs)

  -- .. and those of one element more
  one-more : (i : ℕ) (x : X) → i < length xs → first i ++ f (get_or xs i x) ≡ first (i + 1)
  one-more i x within = flat_map_more f (c ∷ []) (take i xs) (get_or xs i x) ∙ ap (λ (ys : List X). c ∷ flat_map f ys) (sym (take_more xs i x within))

  -- a list's next element is refused
  pub element-ended : {a b : Writer} (d : Writer) (i : ℕ) (x : X) (e : Refusal) (r : Result (Unit {0}) Refusal) → IsErrAnd r (λ y. y ≡ e) → x ≡ get_or xs i x → i < length xs → Adds a b (first i) → Stops b d (f x) e
      → Tells a d (c ∷ flat_map f xs ++ end ∷ []) r
  element-ended {a = a} {b = b} d i x e r is-e is within before next =
      let rest : List Call = flat_map f (drop (i + 1) xs) in
      let whole : first (i + 1) ++ rest ≡ c ∷ flat_map f xs =
      ap (λ (ys : List Call). c ∷ ys) (sym (flat_map-append f (take (i + 1) xs) (drop (i + 1) xs)) ∙ ap (flat_map f) (take-append-drop (i + 1) xs)) in
      let parts : (first i ++ f (get_or xs i x)) ++ (rest ++ end ∷ []) ≡ c ∷ flat_map f xs ++ end ∷ [] =
      ap (λ (ys : List Call). ys ++ (rest ++ end ∷ [])) (one-more i x within) ∙ sym (append_assoc (first (i + 1)) rest (end ∷ [])) ∙ ap (λ (ys : List Call). ys ++ end ∷ []) whole in
      let stopped : Stops b d (f (get_or xs i x)) e = subst (λ (y : X). Stops b d (f y) e) is next in
      subst (λ (ys : List Call). Tells a d ys r) parts (ended (rest ++ end ∷ []) e r is-e (more-told d (f (get_or xs i x)) (Err e) before stopped))

  -- after all of its elements a list's end is told
  pub list-told : {a b : Writer} (d : Writer) (i : ℕ) (r : Result (Unit {0}) Refusal) → length xs ≤ i → Adds a b (first i) → Answers b d end r → Tells a d (c ∷ flat_map f xs ++ end ∷ []) r
  list-told {a = a} d i r whole before told =
      subst (λ (ys : List X). Tells a d (c ∷ flat_map f ys ++ end ∷ []) r) (take_all i xs whole) (call-next d end r before told)

-- what was told to a writer that stood for no call
pub all-told : (sizes : Sizes) (a b : Writer) (xs : List Call) (r : Result (Unit {0}) Refusal) → Stands a.desk [] → sizes_at a ≡ sizes → Tells a b xs r → TellsAll sizes b.desk xs r
all-told sizes a b xs (Ok done) stands same told = (told.stands [] stands, told.sizes [] stands ∙ same)
all-told sizes a b xs (Err refusal) stands same told = subst (λ (z : Sizes). Stopped z b.desk [] xs refusal) same (told.stopped [] stands)
