-- What reading a node's cells comes to, by its kind.
use Rattle.std.proofs.Common.{◌≡◌, ℕ, ◌+◌, List, [], ◌∷◌, map as each, length, replicate, MatchResult, Result, refl, sym, ap, ◌∙◌, subst, arith}
use Rattle.std.proofs.lemmas.List.{length-map, length-replicate}
use Rattle.std.proofs.lemmas.Result.{MatchResult-weaker}
use Rattle.std.specs.List.{AllByRecursion}
use Rattle.column.specs.Meaning.{Meaning}
use Rattle.document.specs.declared.refusals.Refusal.{Refusal}
use Rattle.document.specs.declared.scalars.Scalar.{Scalar}
use Rattle.document.specs.Calls.{width, total, Kind, SCALAR, TEXT, SEQ, MAP, ENUM, UNIT, TUPLE, Cell, number, letters, num, str}
use Rattle.document.specs.Columns.{sum}
use Rattle.document.specs.Fetch.{Supply, Fetched, fetched, denied, and_then, numbers, as_numbers, fetch, columns_of}
use Rattle.nodes.specs.declared.marks.Mark.{Mark}
use Rattle.nodes.specs.declared.marks.Mark.TheVariants as marks
use Rattle.nodes.specs.Marks.{mark_of}
use Rattle.de.specs.declared.columns.Spot.{Spot}
use Rattle.de.specs.declared.columns.Gain.{Gain}
use Rattle.de.specs.Columns.{Within, left_at, Reads, Stored, TextsStored, lengths_of, CellsStored}

-- ---- marks

-- the kind of a mark; for a node that is not marked, any
abbrev pub kind_of : Mark → Kind
kind_of marks.Unmarked = UNIT
kind_of (marks.Scalar k) = SCALAR k
kind_of marks.Text = TEXT
kind_of marks.Seq = SEQ
kind_of marks.Map = MAP
kind_of marks.Enum = ENUM
kind_of marks.Unit = UNIT
kind_of (marks.Tuple n) = TUPLE n

-- a kind's mark has the kind
kind-is : (K : Kind) → kind_of (mark_of K) ≡ K
kind-is (SCALAR k) = refl
kind-is TEXT = refl
kind-is SEQ = refl
kind-is MAP = refl
kind-is ENUM = refl
kind-is UNIT = refl
kind-is (TUPLE n) = refl

-- what holds of a mark's kind holds of each kind that has the mark
pub of_mark : (P : Kind → Type 0) (mark m : Mark) → mark ≡ m → P (kind_of m) → (K : Kind) → mark ≡ mark_of K → P K
of_mark P mark m e p K h = subst P (ap kind_of (sym e ∙ h) ∙ kind-is K) p

-- ---- what is read, as cells

-- a list was read, or refused, and so were its elements as cells
pub as_cells : {X : Type 0} (f : X → Cell) (room : ℕ) (input : List ℕ) (spot : Spot) (m : Fetched (List X)) (whole : Fetched (List Cell)) (Holds : Gain → List X → Type 0) (P : Gain → List Cell → Type 0)
    → whole ≡ and_then m (λ xs u. fetched (each f xs) u) → ((gain : Gain) (xs : List X) → Holds gain xs → P gain (each f xs)) → (r : Result Gain Refusal)
    → MatchResult r (λ gain. Reads room input spot gain.spot m (Holds gain)) (λ d. m ≡ denied d) → MatchResult r (λ gain. Reads room input spot gain.spot whole (P gain)) (λ d. whole ≡ denied d)
as_cells f room input spot m whole Holds P e h r told =
    let cells : (n : Fetched _) → m ≡ n → whole ≡ and_then n (λ xs u. fetched (each f xs) u) = λ n q. e ∙ ap (λ p. and_then p (λ xs u. fetched (each f xs) u)) q in
    MatchResult-weaker r told (λ gain q. record { what = each f q.what; is = cells _ q.is; within = q.within; taken = q.taken; place = q.place; holds = h gain q.what q.holds }) (λ d q. cells _ q)

-- the sum over cells is the sum of their numbers
sum-num : (cs : List Cell) → total num cs ≡ sum (each num cs)
sum-num [] = refl
sum-num (c ∷ cs) = ap (λ k. num c + k) (sum-num cs)

-- the numbers of numbers are these
num-number : (ns : List ℕ) → each num (each number ns) ≡ ns
num-number [] = refl
num-number (n ∷ ns) = ap (λ ks. n ∷ ks) (num-number ns)

-- the numbers of texts are their lengths
num-letters : (ts : List (List ℕ)) → each num (each letters ts) ≡ each length ts
num-letters [] = refl
num-letters (t ∷ ts) = ap (λ ks. length t ∷ ks) (num-letters ts)

-- each text's number is its length
letters-long : (ts : List (List ℕ)) → AllByRecursion (λ c. num c ≡ length (str c)) (each letters ts)
letters-long [] = tt
letters-long (t ∷ ts) = (refl, letters-long ts)

-- numbers that are stored are stored cells
pub numbers-stored : (K : Kind) (n : ℕ) (slots : List ℕ) (spot : Spot) (gain : Gain) (ns : List ℕ) → (K ≡ TEXT → ⊥) → Stored n slots spot gain.spot ns → gain.sum ≡ lengths_of K (each number ns)
    → CellsStored K n slots spot gain (each number ns)
numbers-stored K n slots spot gain ns other s e =
    record {
      count = length-map ns number ∙ s.count;
      stored = λ _. subst (Stored n slots spot gain.spot) (sym (num-number ns)) s;
      sum-is = e;
      letters = λ t. absurd (other t);
      text = λ t. absurd (other t);
    }

-- the sum of lengths, as cells
pub summed : (ns : List ℕ) → total num (each number ns) ≡ sum ns
summed ns = sum-num (each number ns) ∙ ap sum (num-number ns)

-- texts that are stored are stored cells
pub texts-stored : (n : ℕ) (slots : List ℕ) (spot : Spot) (gain : Gain) (ts : List (List ℕ)) → TextsStored n slots spot gain ts → CellsStored TEXT n slots spot gain (each letters ts)
texts-stored n slots spot gain ts s =
    record {
      count = length-map ts letters ∙ sym (length-map ts length) ∙ s.stored.count;
      stored = λ _. subst (Stored n slots spot gain.spot) (sym (num-letters ts)) s.stored;
      sum-is = s.sum-is ∙ ap sum (sym (num-letters ts)) ∙ sym (sum-num (each letters ts));
      letters = λ _. letters-long ts;
      text = λ _. s.text;
    }

-- a node of scalars has a column of their width
pub of_scalar : (col : Meaning) (column n w : ℕ) (u : Supply) (k : Scalar) → w ≡ width k → fetch col column (SCALAR k) n u ≡ and_then (numbers col column w n u) (λ ns t. fetched (each number ns) t)
unfolding fetch
of_scalar col column n w u k e = ap (λ (v : ℕ). and_then (numbers col column v n u) as_numbers) (sym e)

-- a node of a kind without columns has nothing to be read
pub blank_read : (K : Kind) → columns_of K ≡ 0 → (col : Meaning) (column n room : ℕ) (input slots : List ℕ) (spot : Spot) → Within room input spot
    → Reads room input spot spot (fetch col column K n (left_at room input spot)) (CellsStored K n slots spot (record { spot = spot; text = spot.place; sum = 0 }))
unfolding fetch
blank_read K e col column n room input slots spot w = go K e
  where
    blank : (K : Kind) (c : Cell) → columns_of K ≡ 0 → (K ≡ TEXT → ⊥) → lengths_of K (replicate n c) ≡ 0
        → Reads room input spot spot (fetched (replicate n c) (left_at room input spot)) (CellsStored K n slots spot (record { spot = spot; text = spot.place; sum = 0 }))
    blank K c e other s =
        record {
          what = replicate n c;
          is = refl;
          within = w;
          taken = omega arith;
          place = omega arith;
          holds = record { count = length-replicate n c; stored = λ h. absurd (omega arith); sum-is = sym s; letters = λ t. absurd (other t); text = λ t. absurd (other t) };
        }

    go : (K : Kind) → columns_of K ≡ 0 → Reads room input spot spot (fetch col column K n (left_at room input spot)) (CellsStored K n slots spot (record { spot = spot; text = spot.place; sum = 0 }))
    go (SCALAR k) e = absurd (omega arith)
    go TEXT e = absurd (omega arith)
    go SEQ e = absurd (omega arith)
    go MAP e = absurd (omega arith)
    go ENUM e = absurd (omega arith)
    go UNIT e = blank UNIT (number 0) e (λ t. cc) refl
    go (TUPLE m) e = blank (TUPLE m) (number m) e (λ t. cc) refl
