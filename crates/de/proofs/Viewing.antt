-- Looking at a record finds its node as the definitions do.
use Rattle.std.proofs.Common.{◌≡◌, ℕ, ◌+◌, ◌≤◌, Bool, true, false, cond, not, leb, List, length, min, Option, Ok, Err, Result, sym, refl, ap, ◌∙◌, subst, ap₂, inl, inr, arith}
use Rattle.std.proofs.lemmas.Bool.{ne_eqb, eq-eqb, lt-ltb, le-ltb, le-leb, lt-leb, ltb-false, cases_lt}
use Rattle.std.specs.declared.option.Option.TheVariants as options
use Rattle.column.specs.Meaning.{Meaning}
use Rattle.document.specs.declared.refusals.Refusal.{Refusal}
use Rattle.document.specs.declared.refusals.Refusal.TheVariants as refusals
use Rattle.document.specs.Calls.{Kind, Cell}
use Rattle.document.specs.Nodes.{Path}
use Rattle.document.specs.Fetch.{Supply, supply, Fetched, fetched, denied, fetch}
use Rattle.document.specs.Tables.{takes}
use Rattle.document.specs.Reader.{Node, fresh, ready, Store, kin, Look, found as found_there, lost, newly, looked, look, opened}
use Rattle.nodes.specs.declared.marks.Mark.{Mark}
use Rattle.nodes.specs.Marks.{mark_number, mark_of, family_of}
use Rattle.nodes.specs.Homes.{Home}
use Rattle.nodes.proofs.Kin.{mark-number}
use Rattle.nodes.proofs.Families.{family-takes}
use Rattle.de.specs.declared.records.Node.{Node as Row}
use Rattle.de.specs.declared.columns.Gain.{Gain}
use Rattle.de.specs.Columns.{usable, left_at}
use Rattle.de.specs.Moves.{Sheets, node, branch_in, is_fresh, lacks_nodes}
use Rattle.de.specs.Reads.{Kept, Reads}
use Rattle.de.specs.Viewed.{View, viewed, spot_of, known, Finds, Answers, LooksAs, Looks}

-- A node as a question finds it, with its cells and the store then: it was read before; or its columns were read just now.
pub data Viewed (col : Meaning) (input : List ℕ) (T : Sheets) (slots : List ℕ) (S : Store) (x : Row) (p : Path) (K : Kind) (v : View) (cs : List Cell) (st : Store) : Type 0 where
  before : (H : Kind) → S.nodes p ≡ ready H cs → kin H K ≡ true → v ≡ known (mark_of K) x → st ≡ S → Viewed col input T slots S x p K v cs st
  now : (n : ℕ) (u : Supply) → S.nodes p ≡ fresh n → T.used + family_of (mark_of K) ≤ min (length T.nodes) 65536
      → fetch col S.columns K n (supply S.slots S.input) ≡ fetched cs u → Finds input T slots K x cs u v → st ≡ opened p K cs u S → Viewed col input T slots S x p K v cs st

-- looking answers as the definitions do: the same refusal, or the node as it is found there
abbrev pub Sees : Meaning → List ℕ → Sheets → List ℕ → Store → Row → Path → Kind → Look → Result View Refusal → Type 0
Sees col input T slots S x p K (found_there cs st) res = (v : View) × (res ≡ Ok v) × Viewed col input T slots S x p K v cs st
Sees col input T slots S x p K (lost e) res = res ≡ Err e

module _ (col : Meaning) (input : List ℕ) (T : Sheets) (slots : List ℕ) (ps : List Path) (S : Store) (r : ℕ) (p : Path) (K : Kind) (h : Reads T ps input S) (rooted : S.rooted ≡ true) where
  -- a node that was read before
  of_kin : (H : Kind) (cs : List Cell) (res : Result View Refusal) → S.nodes p ≡ ready H cs → res ≡ cond (kin H K) (Ok (known (mark_of K) (node T r))) (Err refusals.Kind)
      → Sees col input T slots S (node T r) p K (cond (kin H K) (found_there cs S) (lost refusals.Kind)) res
  of_kin H cs res e is = go (kin H K) refl is
    where
      go : (b : Bool) → kin H K ≡ b → res ≡ cond b (Ok (known (mark_of K) (node T r))) (Err refusals.Kind) → Sees col input T slots S (node T r) p K (cond b (found_there cs S) (lost refusals.Kind)) res
      go true k q = (known (mark_of K) (node T r), q, before H e k refl refl)
      go false k q = q

  -- a node whose columns are read
  of_fetch : (n : ℕ) (F : Fetched (List Cell)) (res : Result View Refusal) → S.nodes p ≡ fresh n → T.used + family_of (mark_of K) ≤ min (length T.nodes) 65536
      → fetch col S.columns K n (supply S.slots S.input) ≡ F → Answers (Finds input T slots K (node T r)) F res → Sees col input T slots S (node T r) p K (newly p K S F) res
  of_fetch n (fetched cs u) (Ok v) e room f a = (v, refl, now n u e room f a refl)
  of_fetch n (fetched cs u) (Err d) e room f a = absurd a
  of_fetch n (denied d) (Ok v) e room f a = absurd a
  of_fetch n (denied d) (Err c) e room f a = ap Err a

  -- what is left of the tables
  supplies : left_at (usable (length T.slots)) input (spot_of T) ≡ supply S.slots S.input
  supplies = ap₂ supply (sym h.slots) (sym h.rest)

  -- records lack where too few are free
  lacking : leb (takes K) S.records ≡ not (lacks_nodes T (family_of (mark_of K)))
  lacking = elim (cases_lt (min (length T.nodes) 65536) (T.used + family_of (mark_of K))) [
    | inl l ↦ lt-leb (takes K) S.records (omega (arith, h.records, h.room rooted, family-takes K)) ∙ sym (ap not (lt-ltb _ _ l))
    | inr l ↦ le-leb (takes K) S.records (omega (arith, h.records, h.room rooted, family-takes K)) ∙ sym (ap not (le-ltb _ _ l))
  ]

  -- a node that is to be read
  of_fresh : (n : ℕ) (b : Bool) (res : Result View Refusal) → S.nodes p ≡ fresh n → (node T r).count ≡ n → lacks_nodes T (family_of (mark_of K)) ≡ b → LooksAs col input T slots K (node T r) true b res
      → Sees col input T slots S (node T r) p K (cond (not b) (newly p K S (fetch col S.columns K n (supply S.slots S.input))) (lost refusals.Nodes)) res
  of_fresh n true res e c l a = a
  of_fresh n false res e c l a =
      let F : ℕ → ℕ → Supply → Fetched (List Cell) = λ k m u. fetch col k K m u in
      let q : F T.columns (node T r).count (left_at (usable (length T.slots)) input (spot_of T)) ≡ F S.columns n (supply S.slots S.input) =
      ap (λ k. F k (node T r).count (left_at (usable (length T.slots)) input (spot_of T))) (sym h.columns) ∙ ap (λ m. F S.columns m (left_at (usable (length T.slots)) input (spot_of T))) c ∙ ap (F S.columns n) supplies in
      of_fetch n (F S.columns n (supply S.slots S.input)) res e (room l) refl (subst (λ G. Answers (Finds input T slots K (node T r)) G res) q a)
    where
      room : lacks_nodes T (family_of (mark_of K)) ≡ false → T.used + family_of (mark_of K) ≤ min (length T.nodes) 65536
      room l = ltb-false _ _ l

  -- so it is in each case
  pub viewing : (res : Result View Refusal) → Home ps r p → Looks col input T slots r K res → Sees col input T slots S (node T r) p K (look col p K S) res
  viewing res home is = go (S.nodes p) refl (h.kept r p home)
    where
      go : (N : Node) → S.nodes p ≡ N → Kept T ps S p (node T r) N → Sees col input T slots S (node T r) p K (looked col p K S N) res
      go (fresh n) e (m, c) =
          let new : is_fresh (node T r) ≡ true = eq-eqb _ _ (ap mark_number m) in
          rw lacking (of_fresh n (lacks_nodes T (family_of (mark_of K))) res e c refl (subst (λ b. LooksAs col input T slots K (node T r) b (lacks_nodes T (family_of (mark_of K))) res) new is))
      go (ready H cs) e (m, n, v, ch) =
          let old : is_fresh (node T r) ≡ false = ne_eqb _ _ (λ z. omega (arith, mark-number H, ap mark_number m)) in
          of_kin H cs res e (subst (λ b. LooksAs col input T slots K (node T r) b (lacks_nodes T (family_of (mark_of K))) res) old is H m)

-- a node's children are as they are in its record
pub branch_viewed : (T : Sheets) (r : ℕ) (m : Mark) (g : Option Gain) (o : Option ℕ) → branch_in T (node T r) o ≡ branch_in T (viewed T r m g).node o
branch_viewed T r m options.None options.None = refl
branch_viewed T r m options.None (options.Some i) = refl
branch_viewed T r m (options.Some g) options.None = refl
branch_viewed T r m (options.Some g) (options.Some i) = refl
