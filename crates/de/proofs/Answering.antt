-- An answer and the value of the definitions that it stands for.
use Rattle.std.proofs.Common.{◌≡◌, ℕ, zero, suc, ◌+◌, ◌^◌, ◌<◌, ◌≤◌, Bool, true, false, cond, ◌&&◌, eqb, ◌⊎◌, List, [], ◌∷◌, ◌++◌, length, get_or, take, drop, Result, sym, refl, ap, ◌∙◌, subst, subst₂, ap₂, inl, inr, ⊎_elim, add-zero, one-add, arith, length-append}
use Rattle.std.proofs.Math.Bool.{and-true, and-false}
use Rattle.std.proofs.lemmas.List.{get_or-drop, get_or-take, drop-take, drop-drop}
use Rattle.std.proofs.lemmas.Bool.{ne_eqb, le-ltb}
use Rattle.std.specs.declared.option.Option.TheVariants as options
use Rattle.std.specs.List.{AllByRecursion}
use Rattle.document.specs.declared.refusals.Refusal.{Refusal}
use Rattle.document.specs.declared.refusals.Refusal.TheVariants as refusals
use Rattle.document.specs.declared.scalars.Scalar.{Scalar}
use Rattle.document.specs.declared.questions.Answer.{Answer}
use Rattle.document.specs.declared.questions.Answer.TheVariants as answers
use Rattle.document.specs.declared.questions.Question.{Question}
use Rattle.document.specs.declared.questions.Question.TheVariants as questions
use Rattle.document.specs.Calls.{width, Value, scalar, text, unit, none, some, variant, seq, map, tuple, Kind, SCALAR, TEXT, SEQ, MAP, ENUM, UNIT, TUPLE, Cell, num, str, val}
use Rattle.document.specs.Nodes.{Path, ◌▹◌, field, alt}
use Rattle.document.specs.Numbers.{Is}
use Rattle.document.specs.Places.{Place, fields, opens, too_many}
use Rattle.document.specs.Reader.{Store, letter_count, Ask, scalar?, text?, option?, variant?, seq?, map?, tuple?, asks, worth, worthless, option, oversized, worth_of, Child, childless, child, child_of}
use Rattle.nodes.specs.declared.places.State.TheVariants as states
use Rattle.nodes.specs.Homes.{Home}
use Rattle.nodes.specs.Placed.{Placed, Opens}
use Rattle.de.specs.declared.records.Node.{Node as Row}
use Rattle.de.specs.Moves.{Sheets, node}
use Rattle.de.specs.Asked.{Sized, opens_place, branching, letters_of}
use Rattle.de.specs.Answered.{Answers, question_of, Worthy}
use Rattle.de.specs.Reads.{Lies, Values, Children}
use Rattle.de.specs.Viewed.{sight}
use Rattle.de.specs.Taken.{stepped, opened_at}
use Rattle.de.specs.Hearing.{next_number, Stands, HearSafe, HeardIn}

-- ---- numbers

-- an answer that opens no place, has no index and no text bytes
pub record Bare (a : Answer) : Type 0 where
  pub shut : opens_place a ≡ false
  pub childless : branching a ≡ options.None
  pub wordless : letters_of a ≡ 0
  pub placeless : (T : Sheets) (r k : ℕ) (q : Question) → opened_at T r k q a ≡ options.None

-- a number is such an answer
pub number-bare : (a : Answer) (k : Scalar) (b : ℕ) → Is a k b → Bare a
number-bare (answers.Bool x) k b is = record { shut = refl; childless = refl; wordless = refl; placeless = λ T r c q. refl }
number-bare (answers.U8 x) k b is = record { shut = refl; childless = refl; wordless = refl; placeless = λ T r c q. refl }
number-bare (answers.U16 x) k b is = record { shut = refl; childless = refl; wordless = refl; placeless = λ T r c q. refl }
number-bare (answers.U32 x) k b is = record { shut = refl; childless = refl; wordless = refl; placeless = λ T r c q. refl }
number-bare (answers.U64 x) k b is = record { shut = refl; childless = refl; wordless = refl; placeless = λ T r c q. refl }
number-bare (answers.I8 x) k b is = record { shut = refl; childless = refl; wordless = refl; placeless = λ T r c q. refl }
number-bare (answers.I16 x) k b is = record { shut = refl; childless = refl; wordless = refl; placeless = λ T r c q. refl }
number-bare (answers.I32 x) k b is = record { shut = refl; childless = refl; wordless = refl; placeless = λ T r c q. refl }
number-bare (answers.I64 x) k b is = record { shut = refl; childless = refl; wordless = refl; placeless = λ T r c q. refl }
number-bare (answers.F32 x) k b is = record { shut = refl; childless = refl; wordless = refl; placeless = λ T r c q. refl }
number-bare (answers.Text place n) k b is = absurd is
number-bare answers.Unit k b is = absurd is
number-bare answers.None k b is = absurd is
number-bare answers.Some k b is = absurd is
number-bare (answers.Variant i) k b is = absurd is
number-bare (answers.Seq n) k b is = absurd is
number-bare (answers.Map n) k b is = absurd is
number-bare answers.Tuple k b is = absurd is
number-bare answers.End k b is = absurd is

-- ---- places

-- an answer opens a place where its value opens one
pub opens-length : (a : Answer) (v : Value) (place : ℕ) (p : Path) → Answers a (val v) place → length (opens p v) ≡ cond (opens_place a) 1 0
opens-length a (scalar k b) place p h = ap (λ o. cond o 1 0) (sym (number-bare a k b h).shut)
opens-length a (text bs) place p h = ap (λ x. cond (opens_place x) 1 0) (sym h)
opens-length a unit place p h = ap (λ x. cond (opens_place x) 1 0) (sym h)
opens-length a none place p h = ap (λ x. cond (opens_place x) 1 0) (sym h)
opens-length a some place p h = ap (λ x. cond (opens_place x) 1 0) (sym h)
opens-length a (variant i) place p h = ap (λ x. cond (opens_place x) 1 0) (sym h)
opens-length a (seq n) place p h = ap (λ x. cond (opens_place x) 1 0) (sym h)
opens-length a (map n) place p h = ap (λ x. cond (opens_place x) 1 0) (sym h)
opens-length a (tuple zero) place p h = ap (λ x. cond (opens_place x) 1 0) (sym h)
opens-length a (tuple (suc zero)) place p h = ap (λ x. cond (opens_place x) 1 0) (sym h)
opens-length a (tuple (suc (suc n))) place p h = ap (λ x. cond (opens_place x) 1 0) (sym h)

-- with as many places open as there can be, an answer opens one too many where it opens one at all
pub deep_is : (a : Answer) (v : Value) (place : ℕ) (p : Path) (gs : List Place) (deep : Bool) → Answers a (val v) place → length gs ≤ 33 → deep ≡ too_many (suc (length gs))
    → too_many (length (opens p v ++ gs)) ≡ (deep && opens_place a)
deep_is a v place p gs deep h most is = ap too_many (length-append (opens p v) gs ∙ ap (λ n. n + length gs) (opens-length a v place p h)) ∙ go (opens_place a)
  where
    go : (b : Bool) → too_many (cond b 1 0 + length gs) ≡ (deep && b)
    go true = ap too_many (one-add (length gs)) ∙ sym is ∙ sym (and-true deep)
    go false = le-ltb 33 (0 + length gs) (omega arith) ∙ sym (and-false deep)

-- ---- the child that the next value stands at

-- an answer has no index; or the child is its index's
abbrev pub Branches : Path → Answer → Child → Type 0
Branches p a childless = branching a ≡ options.None
Branches p a (child q) = (i : ℕ) × (branching a ≡ options.Some i) × (q ≡ p ▹ alt i)

-- so it is with the child of its value
pub branches : (a : Answer) (v : Value) (place : ℕ) (p : Path) → Answers a (val v) place → Branches p a (child_of p v)
branches a (scalar k b) place p h = (number-bare a k b h).childless
branches a (text bs) place p h = ap branching h
branches a unit place p h = ap branching h
branches a none place p h = ap branching h
branches a some place p h = (1, ap branching h, refl)
branches a (variant i) place p h = (i, ap branching h, refl)
branches a (seq n) place p h = ap branching h
branches a (map n) place p h = ap branching h
branches a (tuple n) place p h = ap branching h

-- ---- what a cell is worth

-- the value that a cell is worth to a question
abbrev pub Worths : Ask → Cell → Value → Type 0
Worths (scalar? k) c v = v ≡ scalar k (num c)
Worths text? c v = v ≡ text (str c)
Worths option? c v = (v ≡ none) ⊎ (v ≡ some)
Worths variant? c v = v ≡ variant (num c)
Worths (seq? flag) c v = v ≡ seq (num c)
Worths (map? flag) c v = v ≡ map (num c)
Worths (tuple? n) c v = v ≡ tuple n

-- a cell is worth no other
pub worth_is : (ask : Ask) (c : Cell) (v : Value) → worth_of ask c ≡ worth v → Worths ask c v
worth_is ask c v e = go ask e
  where
    of_option : (n : ℕ) → option n ≡ worth v → (v ≡ none) ⊎ (v ≡ some)
    of_option zero q = inl cc
    of_option (suc zero) q = inr cc
    of_option (suc (suc n)) q = cc

    flagged : (b : Bool) (u : Value) → cond b (worthless refusals.NoSize) (worth u) ≡ worth v → v ≡ u
    flagged true u q = cc
    flagged false u q = cc

    go : (a : Ask) → worth_of a c ≡ worth v → Worths a c v
    go (scalar? k) q = cc
    go text? q = cc
    go option? q = of_option (num c) q
    go variant? q = cc
    go (seq? flag) q = flagged (oversized flag (num c)) (seq (num c)) q
    go (map? flag) q = flagged (oversized flag (num c)) (map (num c)) q
    go (tuple? n) q = cc

-- only a text's answer has a place
pub worthy_at : (ask : Ask) (c : Cell) (r : Result Answer Refusal) (place place' : ℕ) → Worthy (worth_of ask c) place r → (asks ask ≡ TEXT → place ≡ place') → Worthy (worth_of ask c) place' r
worthy_at ask c r place place' h e = go ask h e
  where
    of_option : (n : ℕ) → Worthy (option n) place r → Worthy (option n) place' r
    of_option zero w = w
    of_option (suc zero) w = w
    of_option (suc (suc n)) w = w

    flagged : (b : Bool) (u : Value) → (Worthy (worth u) place r → Worthy (worth u) place' r) → Worthy (cond b (worthless refusals.NoSize) (worth u)) place r → Worthy (cond b (worthless refusals.NoSize) (worth u)) place' r
    flagged true u same w = w
    flagged false u same w = same w

    go : (a : Ask) → Worthy (worth_of a c) place r → (asks a ≡ TEXT → place ≡ place') → Worthy (worth_of a c) place' r
    go (scalar? k) w q = w
    go text? w q = subst (λ n. Worthy (worth (text (str c))) n r) (q refl) w
    go option? w q = of_option (num c) w
    go variant? w q = w
    go (seq? flag) w q = flagged (oversized flag (num c)) (seq (num c)) (λ u. u) w
    go (map? flag) w q = flagged (oversized flag (num c)) (map (num c)) (λ u. u) w
    go (tuple? n) w q = w

-- how many text bytes a cell of a node of this kind stands for
abbrev pub letters_at : Kind → Cell → ℕ
letters_at (SCALAR k) c = 0
letters_at TEXT c = letter_count c
letters_at SEQ c = 0
letters_at MAP c = 0
letters_at ENUM c = 0
letters_at UNIT c = 0
letters_at (TUPLE n) c = 0

module _ (ask : Ask) (c : Cell) (v : Value) (a : Answer) (place : ℕ) (e : worth_of ask c ≡ worth v) (h : Answers a (val v) place) where
  -- an answer that is a value is each equal value
  answers_as : (u : Value) → v ≡ u → Answers a (val u) place
  answers_as u w = subst (λ x. Answers a (val x) place) w h

  -- an answer has the text bytes of its cell
  pub letters_is : letters_of a ≡ letters_at (asks ask) c
  letters_is = go ask (worth_is ask c v e)
    where
      go : (b : Ask) → Worths b c v → letters_of a ≡ letters_at (asks b) c
      go (scalar? k) w = (number-bare a k (num c) (answers_as (scalar k (num c)) w)).wordless
      go text? w = ap letters_of (answers_as (text (str c)) w)
      go option? w = ⊎_elim (λ z. ap letters_of (answers_as none z)) (λ z. ap letters_of (answers_as some z)) w
      go variant? w = ap letters_of (answers_as (variant (num c)) w)
      go (seq? flag) w = ap letters_of (answers_as (seq (num c)) w)
      go (map? flag) w = ap letters_of (answers_as (map (num c)) w)
      go (tuple? n) w = ap letters_of (answers_as (tuple n) w)

  -- .. and opens the place that its value opens
  pub opens_at : (T : Sheets) (ps : List Path) (S : Store) (r k : ℕ) (p : Path) → Home ps r p → Children T ps S p (node T r) (asks ask) → ((i : ℕ) → branching a ≡ options.Some i → Home ps k (p ▹ alt i))
      → Opens ps (opened_at T r k (question_of ask) a) (opens p v)
  opens_at T ps S r k p home ch there = go ask (worth_is ask c v e) ch
    where
      first : ℕ
      first = (node T r).children.first

      -- a tuple of several fields, or of none
      of_fields : (n : ℕ) → ((j : ℕ) → j < n → Home ps (first + j) (p ▹ field j)) → Placed ps (states.Fields first n) (fields p 0 n)
      of_fields n f = (first, refl, λ j l. let z : j ≡ 0 + j = omega arith in subst (λ i. Home ps (first + j) (p ▹ field i)) z (f j l))

      of_tuple : (n : ℕ) → ((j : ℕ) → j < n → Home ps (first + j) (p ▹ field j)) → Opens ps (options.Some (cond (eqb n 1) (states.Lone r 1) (states.Fields first n))) (opens p (tuple n))
      of_tuple zero f = of_fields 0 f
      of_tuple (suc zero) f = (r, refl, home)
      of_tuple (suc (suc n)) f =
          let z : eqb (suc (suc n)) 1 ≡ false = ne_eqb (suc (suc n)) 1 (λ q. omega arith) in
          subst (λ b. Placed ps (cond b (states.Lone r 1) (states.Fields first (suc (suc n)))) (fields p 0 (suc (suc n)))) (sym z) (of_fields (suc (suc n)) f)

      as_value : (q : Question) (x : Answer) (u : Value) → a ≡ x → v ≡ u → Opens ps (opened_at T r k q x) (opens p u) → Opens ps (opened_at T r k q a) (opens p v)
      as_value q x u s w o = subst₂ (λ y z. Opens ps (opened_at T r k q y) (opens p z)) (sym s) (sym w) o

      go : (b : Ask) → Worths b c v → Children T ps S p (node T r) (asks b) → Opens ps (opened_at T r k (question_of b) a) (opens p v)
      go (scalar? j) w f = subst₂ (λ o u. Opens ps o (opens p u)) (sym ((number-bare a j (num c) (answers_as (scalar j (num c)) w)).placeless T r k (questions.Scalar j))) (sym w) tt
      go text? w f = as_value questions.Text (answers.Text place (length (str c))) (text (str c)) (answers_as (text (str c)) w) w tt
      go option? w f = ⊎_elim
          (λ z. as_value questions.Option answers.None none (answers_as none z) z tt)
          (λ z. as_value questions.Option answers.Some some (answers_as some z) z (k, refl, there 1 (ap branching (answers_as some z))))
          w
      go variant? w f = let s = answers_as (variant (num c)) w in as_value questions.Variant (answers.Variant (num c)) (variant (num c)) s w (k, refl, there (num c) (ap branching s))
      go (seq? flag) w f = as_value (questions.Seq flag) (answers.Seq (num c)) (seq (num c)) (answers_as (seq (num c)) w) w (first, refl, f)
      go (map? flag) w f = as_value (questions.Map flag) (answers.Map (num c)) (map (num c)) (answers_as (map (num c)) w) w (first, refl, f.0, f.1)
      go (tuple? n) w f = as_value (questions.Tuple n) answers.Tuple (tuple n) (answers_as (tuple n) w) w (of_tuple n f)

-- ---- the next value

-- the next number of a node's values
pub next_is : (T : Sheets) (x : Row) (c : Cell) (cs : List Cell) → Lies T x (c ∷ cs) → next_number T (sight x) ≡ num c
next_is T x c cs l =
    let m = x.first + x.done in
    sym (ap (λ xs. get_or xs 0 0) l.left ∙ get_or-take (suc (length cs)) (drop m T.slots) 0 0 (omega arith) ∙ get_or-drop m T.slots 0 0 ∙ ap (λ k. get_or T.slots k 0) (add-zero m))

-- those that are left after it
pub lies_step : (T : Sheets) (letters : ℕ) (x : Row) (c : Cell) (cs : List Cell) → Lies T x (c ∷ cs) → Lies T (stepped letters x) cs
lies_step T letters x c cs l =
    let m = x.first + x.done in
    let further : m + 1 ≡ x.first + (x.done + 1) = omega arith in
    record {
      within = l.within;
      left =
          ap (drop 1) l.left
          ∙ ap (λ n. drop 1 (take n (drop m T.slots))) (sym (one-add (length cs)))
          ∙ drop-take 1 (length cs) (drop m T.slots)
          ∙ ap (take (length cs)) (drop-drop 1 m T.slots ∙ ap (λ k. drop k T.slots) further);
    }

-- what is left of a node's values once the next is answered; where its next text stands then counts for texts alone
pub values_step : (T : Sheets) (start letters : ℕ) (x : Row) (K : Kind) (c : Cell) (cs : List Cell) → letters ≡ letters_at K c → Values T start x K (c ∷ cs) → Values T (start + letter_count c) (stepped letters x) K cs
values_step T start letters x (SCALAR k) c cs e v = (lies_step T letters x c cs v.0, v.1.1)
values_step T start letters x TEXT c cs e v = (lies_step T letters x c cs v.0, ap₂ ◌+◌ v.1 e, omega (arith, v.2, v.3.0, e), v.3.1)
values_step T start letters x SEQ c cs e v = lies_step T letters x c cs v
values_step T start letters x MAP c cs e v = lies_step T letters x c cs v
values_step T start letters x ENUM c cs e v = (lies_step T letters x c cs v.0, v.1.1)
values_step T start letters x UNIT c cs e v = tt
values_step T start letters x (TUPLE n) c cs e v = tt

-- ---- hearing

module _ (T : Sheets) (start : ℕ) (x : Row) (ask : Ask) where
  -- hearing the next value stays within the slots, and the value fits the question
  pub hear_safe : (cs : List Cell) → Values T start x (asks ask) cs → x.done + length cs ≡ x.count → T.taken ≤ length T.slots → HearSafe T (sight x) (question_of ask)
  hear_safe cs v n room = record { left = omega arith; stands = λ l. go ask v l }
    where
      inside : Lies T x cs → x.done < x.count → x.first + x.done < length T.slots
      inside s l = omega (arith, s.within)

      fits : (top : ℕ) (ds : List Cell) → Lies T x ds → AllByRecursion (λ c. num c < top) ds → x.done + length ds ≡ x.count → x.done < x.count → next_number T (sight x) < top
      fits top [] s b m l = absurd (omega arith)
      fits top (d ∷ ds) s b m l = omega (arith, next_is T x d ds s, b.0)

      go : (b : Ask) → Values T start x (asks b) cs → x.done < x.count → Stands T (sight x) (question_of b)
      go (scalar? k) w l = (inside w.0 l, fits (2 ^ width k) cs w.0 w.1 n l)
      go text? w l = inside w.0 l
      go option? w l = inside w.0 l
      go variant? w l = (inside w.0 l, let small = fits (2 ^ 8) cs w.0 w.1 n l in omega arith)
      go (seq? flag) w l = inside w l
      go (map? flag) w l = inside w l
      go (tuple? m) w l = tt

  -- it is the next of the cells that are left
  pub heard_in : (cs : List Cell) → Values T start x (asks ask) cs → x.done + length cs ≡ x.count → HeardIn T (sight x) ask cs
  heard_in [] v n = omega arith
  heard_in (c ∷ cs) v n = (omega arith, go ask v)
    where
      go : (b : Ask) → Values T start x (asks b) (c ∷ cs) → Sized b c (next_number T (sight x))
      go (scalar? k) w = sym (next_is T x c cs w.0)
      go text? w = sym (next_is T x c cs w.0 ∙ w.3.0)
      go option? w = sym (next_is T x c cs w.0)
      go variant? w = sym (next_is T x c cs w.0)
      go (seq? flag) w = sym (next_is T x c cs w)
      go (map? flag) w = sym (next_is T x c cs w)
      go (tuple? m) w = tt
