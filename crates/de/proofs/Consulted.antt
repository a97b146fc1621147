-- A question that asks a value of a node, as the code goes about it: that it is safe, and that it answers as the definitions do.
use Rattle.std.proofs.Common.{◌≡◌, ℕ, suc, ◌+◌, ◌*◌, ◌^◌, ◌<◌, ◌≤◌, Bool, true, false, cond, ◌&&◌, eqb, ltb, List, [], ◌∷◌, ◌++◌, length, get_or, Ok, Err, Option, Result, sym, refl, ap, ◌∙◌, subst, arith}
use mathlib.Core.Logic.{∥∥₁_elim}
use Rattle.std.proofs.lemmas.Bool.{ltb-false, eqb-true, eq-eqb, cond-true, false≢true}
use Rattle.std.specs.Prelude.{nat_lt, vec_len}
use Rattle.std.specs.declared.option.Option.TheVariants as options
use Rattle.column.specs.Meaning.{Meaning, Lawful}
use Rattle.column.specs.Widths.{Bytes}
use Rattle.document.specs.declared.refusals.Refusal.{Refusal}
use Rattle.document.specs.declared.refusals.Refusal.TheVariants as refusals
use Rattle.document.specs.declared.questions.Answer.{Answer}
use Rattle.document.specs.declared.questions.Question.{Question}
use Rattle.document.specs.Calls.{SCALAR, TEXT, SEQ, MAP, ENUM, UNIT, TUPLE, Cell, total}
use Rattle.chain.specs.declared.Chain.{Chain}
use Rattle.document.specs.Nodes.{Path}
use Rattle.document.specs.Places.{Place, too_many}
use Rattle.document.specs.Reader.{Ask, asks, Node, fresh, ready, Store, taken, found as found_there, look, pick}
use Rattle.nodes.specs.Homes.{Home}
use Rattle.nodes.proofs.Homes.{home-more}
use Rattle.de.specs.declared.heard.Heard.{Heard}
use Rattle.de.specs.declared.store.Tables.{Tables}
use Rattle.de.specs.Moves.{Sheets, sheets, node, advanced, lacks_nodes, lacks_child, branch_in}
use Rattle.de.specs.Asked.{opens_place, branching, letters_of}
use Rattle.de.specs.Answered.{question_of}
use Rattle.de.specs.Reads.{columns_read, Values, Kept, Reads}
use Rattle.de.specs.Served.{Spared, Readable, Replied, Consulted}
use Rattle.de.specs.Viewed.{View, sight, LookSafe, Looks, spot_of, reached}
use Rattle.de.specs.Taken.{taken_in, branched, branch_then, opened_at, TakeSafe, IsNew, IsIndex, BranchSafe}
use Rattle.de.specs.Hearing.{HearSafe, HeardIn, Heard as HeardAs}
use Rattle.de.proofs.Growing.{linked-tail}
use Rattle.de.proofs.Keeping.{enum_within, reads_spared}
use Rattle.de.proofs.Taking.{put_here}
use Rattle.de.proofs.Viewing.{Sees, viewing}
use Rattle.de.proofs.Answering.{letters_is, hear_safe, heard_in}
use Rattle.de.proofs.Coming.{comes_in}
use Rattle.de.proofs.Seeing.{spared_is, Seen, seeing}
use Rattle.de.proofs.Unique.{hear-prop, look-prop, take-prop, branch-prop}
use Rattle.de.proofs.Fitting.{text_fits, index_fits, hear_safe_at}
use Rattle.de.proofs.Consulting.{refused_view, found_view, Asked, NextValue, refused_answer, heard_value, enum_at, refused_depth, refused_nodes, answered}

-- ---- a record for a new branch

-- where one lacks there is a new index
lacks_one : (T : Sheets) (k : ℕ) (o : Option ℕ) → lacks_child T k o ≡ true → (i : ℕ) × (o ≡ options.Some i) × (k ≡ 0) × (lacks_nodes T 1 ≡ true)
lacks_one T k options.None e = absurd (false≢true e)
lacks_one T k (options.Some i) e = go (eqb k 0) refl e
  where
    go : (b : Bool) → eqb k 0 ≡ b → cond b (lacks_nodes T 1) false ≡ true → (j : ℕ) × (options.Some i ≡ options.Some j) × (k ≡ 0) × (lacks_nodes T 1 ≡ true)
    go true z f = (i, refl, eqb-true k 0 z, f)
    go false z f = absurd (false≢true f)

-- where none lacks there is one for each new index
lacks_none : (T : Sheets) (k : ℕ) (o : Option ℕ) → lacks_child T k o ≡ false → (i : ℕ) → o ≡ options.Some i → k ≡ 0 → lacks_nodes T 1 ≡ false
lacks_none T k o e i is z = sym (ap (lacks_child T k) is ∙ cond-true (eqb k 0) (lacks_nodes T 1) false (eq-eqb k 0 z)) ∙ e

-- ---- looking is safe

-- bytes below 256 each
pub bytes_of : (bs : List ℕ) → ((i : ℕ) → get_or bs i 0 < 256) → Bytes bs
bytes_of [] h = tt
bytes_of (b ∷ bs) h = (h 0, bytes_of bs (λ i. h (suc i)))

-- the columns that were read are three at most for each node record
columns_few : (T : Sheets) (ps : List Path) (input : List ℕ) (S : Store) → Reads T ps input S → S.rooted ≡ true → T.columns + 3 < 2 ^ 32
columns_few T ps input S h rooted = omega (arith, h.few, at_most ps, h.linked.used, h.room rooted)
  where
    three : (x : Node) → columns_read x ≤ 3
    three (fresh n) = omega arith
    three (ready (SCALAR k) cs) = omega arith
    three (ready TEXT cs) = omega arith
    three (ready SEQ cs) = omega arith
    three (ready MAP cs) = omega arith
    three (ready ENUM cs) = omega arith
    three (ready UNIT cs) = omega arith
    three (ready (TUPLE n) cs) = omega arith

    at_most : (qs : List Path) → total (λ q. columns_read (S.nodes q)) qs ≤ 3 * length qs
    at_most [] = omega arith
    at_most (q ∷ qs) = omega (arith, three (S.nodes q), at_most qs)

-- a table that has a record for the root
pub has_root : (t : Tables) → nat_lt 1 (vec_len t.nodes) ≡ true → ltb 1 (length (sheets t).nodes) ≡ true
has_root t e = ap (ltb 1) (sym t.nodes.ok.0) ∙ e

-- looking is safe
pub look_safe : (input : List ℕ) (T : Sheets) (r : ℕ) → Readable input T r → ltb 1 (length T.nodes) ≡ true → LookSafe input T r
look_safe input T r h e = ∥∥₁_elim h (look-prop input T r) (λ (ps, S, p, reads, home).
    let rooted = reads.rooted ∙ e in
    record {
      within = omega (arith, home.1, reads.linked.used, reads.room rooted);
      taken = reads.taken;
      place = reads.within;
      columns = columns_few T ps input S reads rooted;
    })

-- ---- what is known at a question

-- once the record r was looked at, which told this: the tables before and after, and the node that was found
pub record Looked (col : Meaning) (input : List ℕ) (T U : Sheets) (r : ℕ) (q : Question) (told : Result View Refusal) : Type 0 where
  pub law : Lawful col
  pub bytes : Bytes input
  pub some : ltb 1 (length T.nodes) ≡ true
  pub spares : Spared T U
  pub looks : (a : Ask) → q ≡ question_of a → Looks col input T U.slots r (asks a) told

-- .. and once its next value was heard
pub record Listened (col : Meaning) (input : List ℕ) (T U : Sheets) (r : ℕ) (q : Question) (v : View) (told : Result Answer Refusal) : Type 0 where
  pub looked : Looked col input T U r q (Ok v)
  pub hears : (a : Ask) (cs : List Cell) → q ≡ question_of a → HeardIn U (sight v.node) a cs → HeardAs a cs v.node.text told

-- ---- looking

module _ {col : Meaning} {input : List ℕ} {T U : Sheets} {r : ℕ} {q : Question} {told : Result View Refusal} (L : Looked col input T U r q told) where
  -- the node is found as the definitions find it
  sees : (ps : List Path) (S : Store) (p : Path) (a : Ask) → Reads T ps input S → Home ps r p → q ≡ question_of a → Sees col input T U.slots S (node T r) p (asks a) (look col p (asks a) S) told
  sees ps S p a h home is = viewing col input T U.slots ps S r p (asks a) h (h.rooted ∙ L.some) told home (L.looks a is)

-- looking refuses
pub consulted_view : {col : Meaning} {input : List ℕ} {T U : Sheets} {r : ℕ} {q : Question} {e : Refusal} → Looked col input T U r q (Err e) → (deep : Bool) → Consulted col input r q deep T U (Err e)
unfolding Consulted
consulted_view {col} {input} {T} {U} {r} {q} {e} L deep ps S p gs a h home qa few at = refused_view col input T U.slots ps S r p a gs U e L.spares (sees L ps S p a h home qa)

module _ {col : Meaning} {input : List ℕ} {T U : Sheets} {r : ℕ} {q : Question} {v : View} (L : Looked col input T U r q (Ok v)) where
  -- the node that was found, and the tables once its next value is taken
  found_seen : (ps : List Path) (S : Store) (p : Path) (a : Ask) → Reads T ps input S → Home ps r p → q ≡ question_of a
      → (cs : List Cell) × (st : Store) × (look col p (asks a) S ≡ found_there cs st) × Seen U ps input S st r p (asks a) v cs
  found_seen ps S p a h home is =
      let (cs, st, there, viewed) = found_view col input T U.slots S r p (asks a) v (sees L ps S p a h home is) in
      let seen = seeing col input T U.slots ps S h L.spares.size L.spares.slots r p home (h.rooted ∙ L.some) (asks a)
      (λ n ds u w was room read finds. comes_in col L.law input L.bytes T U.slots L.spares.size ps S h (node T r) (asks a) n ds u w room read finds) v cs st viewed in
      (cs, st, there, subst (λ X. Seen X ps input S st r p (asks a) v cs) (sym (spared_is T U L.spares)) seen)

  -- hearing what was found is safe
  pub hear_safely : Readable input T r → (a : Ask) → q ≡ question_of a → HearSafe U (sight v.node) q
  hear_safely readable a qa = ∥∥₁_elim readable (hear-prop U (sight v.node) q) (λ (ps, S, p, h, home).
      let (cs, st, there, seen) = found_seen ps S p a h home qa in
      subst (HearSafe U (sight v.node)) (sym qa) (hear_safe_at _ _ _ (hear_safe (advanced (reached (spot_of U) v.gain).taken (reached (spot_of U) v.gain).place 0 U) (st.texts p) v.node a cs seen.values seen.left (omega (arith, seen.usable)))))

-- ---- hearing

module _ {col : Meaning} {input : List ℕ} {T U : Sheets} {r : ℕ} {q : Question} {v : View} {told : Result Answer Refusal} (L : Listened col input T U r q v told) where
  -- what is heard at a node, with places gs open
  asked_at : (deep : Bool) (ps : List Path) (S : Store) (p : Path) (gs : List Place) (a : Ask) → Reads T ps input S → Home ps r p → q ≡ question_of a → length gs ≤ 33 → deep ≡ too_many (suc (length gs))
      → (cs : List Cell) × (st : Store) × (look col p (asks a) S ≡ found_there cs st) × Asked T U ps input S st r p a gs deep v cs × HeardAs a cs v.node.text told
  asked_at deep ps S p gs a h home is few at =
      let (cs, st, there, seen) = found_seen L.looked ps S p a h home is in (
        cs,
        st,
        there,
        record { reads = reads_spared T U ps input S h L.looked.spares; spares = L.looked.spares; rooted = h.rooted ∙ L.looked.some; home = home; few = few; deep_at = at; seen = seen },
        L.hears a cs is (heard_in _ (st.texts p) v.node a cs seen.values seen.left),
      )

-- hearing refuses
pub consulted_answer : {col : Meaning} {input : List ℕ} {T U : Sheets} {r : ℕ} {q : Question} {v : View} {e : Refusal} → Listened col input T U r q v (Err e) → (deep : Bool) → Consulted col input r q deep T U (Err e)
unfolding Consulted
consulted_answer {col} {input} {T} {U} {r} {q} {v} {e} L deep ps S p gs a h home qa few at =
    let (cs, st, there, Q, heard) = asked_at L deep ps S p gs a h home qa few at in
    subst (λ K. Replied ps input gs T U (pick p gs a K) (Err e)) (sym there) (refused_answer Q e heard)

-- ---- an answer

module _ {col : Meaning} {input : List ℕ} {T U : Sheets} {r : ℕ} {q : Question} {v : View} {x : Answer} (L : Listened col input T U r q v (Ok x)) where
  -- the node and its next value, whatever places are open
  next_value : (ps : List Path) (S : Store) (p : Path) (a : Ask) → Reads T ps input S → Home ps r p → q ≡ question_of a
      → (cs : List Cell) × (st : Store) × Asked T U ps input S st r p a [] (too_many 1) v cs × NextValue st p a cs x
  next_value ps S p a h home qa =
      let (cs, st, there, Q, heard) = asked_at L (too_many 1) ps S p [] a h home qa (omega arith) refl in
      (cs, st, Q, heard_value Q x heard)

  -- taking it is safe
  pub take_safe : Readable input T r → (a : Ask) → q ≡ question_of a → length input < 2 ^ 64 → TakeSafe U r v (letters_of x)
  take_safe readable a qa short = ∥∥₁_elim readable (take-prop U r v (letters_of x)) (λ (ps, S, p, h, home).
      let (cs, st, Q, N) = next_value ps S p a h home qa in
      let room = Q.reads.room Q.rooted in
      let values = subst (Values _ (st.texts p) v.node (asks a)) N.next Q.seen.values in
      record {
        some = omega (arith, Q.reads.linked.used);
        within = omega (arith, Q.reads.linked.used, home.1);
        nodes = omega arith;
        left = omega (arith, Q.seen.left, ap length N.next);
        text = λ l. omega (arith, text_fits _ (st.texts p) v.node (asks a) N.cell N.rest (letters_of x) values (letters_is a N.cell N.value x (st.texts p) N.worths N.answers) l, Q.seen.within);
        columns = columns_few U ps input S Q.reads Q.rooted;
        room = λ f. omega (arith, Q.seen.room f);
        tail = omega (arith, linked-tail U ps Q.reads.linked r p home, ap (λ (k : Chain). k.last) Q.seen.children);
      })

  -- and so is a record for a new branch
  pub branch_safe : Readable input T r → (a : Ask) → q ≡ question_of a → (child : ℕ) → lacks_child U child (branching x) ≡ false → BranchSafe (taken_in r v (letters_of x) U) r child (branching x)
  branch_safe readable a qa child lacks = ∥∥₁_elim readable (branch-prop (taken_in r v (letters_of x) U) r child (branching x)) (λ (ps, S, p, h, home). go ps S p h home)
    where
      V : Sheets
      V = taken_in r v (letters_of x) U

      index_is : (o : Option ℕ) → branching x ≡ o → ((i : ℕ) → branching x ≡ options.Some i → i < 256) → IsIndex o
      index_is options.None e f = tt
      index_is (options.Some i) e f = f i e

      new_is : (o : Option ℕ) → branching x ≡ o → IsNew child o → (i : ℕ) × (branching x ≡ options.Some i) × (child ≡ 0)
      new_is options.None e n = absurd n
      new_is (options.Some i) e n = (i, e, n)

      go : (ps : List Path) (S : Store) (p : Path) → Reads T ps input S → Home ps r p → BranchSafe V r child (branching x)
      go ps S p h home =
          let (cs, st, Q, N) = next_value ps S p a h home qa in
          let (more, reads) = Q.seen.takes N.cell N.rest (letters_of x) N.next (letters_is a N.cell N.value x (st.texts p) N.worths N.answers) in
          let values = subst (Values _ (st.texts p) v.node (asks a)) N.next Q.seen.values in
          let there = home-more ps more r p home in
          let roomy = reads.room (Q.seen.rooted ∙ Q.rooted) in
          let enum = enum_at Q x N in
          record {
            within = omega (arith, there.1, reads.linked.used);
            some = omega (arith, reads.linked.used);
            room = λ n.
                let (i, e, z) = new_is (branching x) refl n in
                omega (arith, reads.records, Q.seen.records (enum i e), Q.reads.records, ltb-false _ _ (lacks_none U child (branching x) lacks i e z));
            tail = omega (arith, linked-tail V (ps ++ more) reads.linked r p there, roomy);
            slots = λ n.
                let (i, e, z) = new_is (branching x) refl n in
                let kept = subst (Kept V (ps ++ more) (taken p (asks a) N.cell N.rest st) p (node V r)) (put_here p (ready (asks a) N.rest) st.nodes) (reads.kept r p there) in
                omega (arith, enum_within V _ (node V r) N.rest (asks a) (enum i e) kept.2, reads.taken);
            index = index_is (branching x) refl (λ i e. index_fits _ (st.texts p) v.node a N.cell N.rest N.value x (st.texts p) N.worths N.answers values (enum i e) i e);
          }

  -- a place too many
  pub consulted_depth : (deep : Bool) → (deep && opens_place x) ≡ true → Consulted col input r q deep T U (Err refusals.Depth)
  unfolding Consulted
  consulted_depth deep full ps S p gs a h home qa few at =
      let (cs, st, there, Q, heard) = asked_at L deep ps S p gs a h home qa few at in
      subst (λ K. Replied ps input gs T U (pick p gs a K) (Err refusals.Depth)) (sym there) (refused_depth Q x (heard_value Q x heard) full)

  module _ (deep : Bool) (shallow : (deep && opens_place x) ≡ false) (child : ℕ) (at_child : child ≡ branch_in U v.node (branching x)) where
    -- no record for a new branch
    pub consulted_nodes : lacks_child U child (branching x) ≡ true → Consulted col input r q deep T U (Err refusals.Nodes)
    unfolding Consulted
    consulted_nodes lacks ps S p gs a h home qa few at =
        let (i, b, z, short) = lacks_one U child (branching x) lacks in
        let (cs, st, there, Q, heard) = asked_at L deep ps S p gs a h home qa few at in
        subst (λ K. Replied ps input gs T U (pick p gs a K) (Err refusals.Nodes)) (sym there)
        (refused_nodes Q x (heard_value Q x heard) shallow i b (sym (at_child ∙ ap (branch_in U v.node) b) ∙ z) short)

    -- the answer is taken, with a record for a new branch
    pub consulted_ok : lacks_child U child (branching x) ≡ false → (T' : Sheets) → T' ≡ branched r child (branching x) (taken_in r v (letters_of x) U)
        → Consulted col input r q deep T T' (Ok (record { answer = x; opened = opened_at T' r (branch_then child (branching x) (taken_in r v (letters_of x) U)) q x }))
    unfolding Consulted
    consulted_ok lacks T' tables ps S p gs a h home qa few at =
        let (cs, st, there, Q, heard) = asked_at L deep ps S p gs a h home qa few at in
        let heard_with : Question → Heard = λ k. record { answer = x; opened = opened_at T' r (branch_then child (branching x) (taken_in r v (letters_of x) U)) k x } in
        subst (λ k. Replied ps input gs T T' (pick p gs a (look col p (asks a) S)) (Ok (heard_with k))) (sym qa)
        (subst (λ K. Replied ps input gs T T' (pick p gs a K) (Ok (heard_with (question_of a)))) (sym there)
        (answered Q x (heard_value Q x heard) shallow T' child at_child tables (lacks_none U child (branching x) lacks)))
