-- What a question finds at a node: its next value, and the tables once that is taken.
use Rattle.std.proofs.Common.{◌≡◌, ℕ, ◌+◌, ◌≤◌, true, List, [], ◌∷◌, ◌++◌, length, min, take, IsSome, sym, refl, ap, ◌∙◌, subst, subst₂, arith}
use Rattle.std.proofs.lemmas.List.{append-nil}
use Rattle.std.proofs.lemmas.Bool.{false≢true}
use Rattle.column.specs.Meaning.{Meaning}
use Rattle.document.specs.Calls.{Kind, ENUM, Cell}
use Rattle.document.specs.Nodes.{Path}
use Rattle.document.specs.Fetch.{Supply, supply, fetched, fetch}
use Rattle.document.specs.Tables.{takes}
use Rattle.document.specs.Records.{brought}
use Rattle.document.specs.Reader.{fresh, ready, Store, kin, taken, opened}
use Rattle.nodes.specs.Marks.{mark_of, family_of}
use Rattle.nodes.specs.Homes.{Home}
use Rattle.de.specs.declared.columns.Gain.{Gain}
use Rattle.de.specs.Moves.{Sheets, node, advanced}
use Rattle.de.specs.Reads.{Values, Kept, Reads}
use Rattle.de.specs.Served.{Spared}
use Rattle.de.specs.Viewed.{View, spot_of, known, found, reached, Finds}
use Rattle.de.specs.Taken.{stepped, taken_in}
use Rattle.de.proofs.Keeping.{GoesOn, values_on, reads_spared}
use Rattle.de.proofs.Kin.{kin_values, kin_child}
use Rattle.de.proofs.Viewing.{Viewed, before, now}
use Rattle.de.proofs.Answering.{letters_at}
use Rattle.de.proofs.Taking.{takes_before, put_here}
use Rattle.de.proofs.Branching.{Branching}
use Rattle.de.proofs.FirstTaking.{Came, first_text, takes_first}

-- the tables with other slots
abbrev pub reslotted : List ℕ → Sheets → Sheets
reslotted slots T = record { nodes = T.nodes; slots = slots; used = T.used; taken = T.taken; place = T.place; columns = T.columns }

-- tables that are as they were, but for slots that are not taken, are those with their slots
pub spared_is : (T T' : Sheets) → Spared T T' → T' ≡ reslotted T'.slots T
spared_is T T' s =
    let e₁ = ap (λ ns. let U : Sheets = record { nodes = ns; slots = T'.slots; used = T'.used; taken = T'.taken; place = T'.place; columns = T'.columns } in U) s.nodes in
    let e₂ = ap (λ u. let U : Sheets = record { nodes = T.nodes; slots = T'.slots; used = u; taken = T'.taken; place = T'.place; columns = T'.columns } in U) s.used in
    let e₃ = ap (λ t. let U : Sheets = record { nodes = T.nodes; slots = T'.slots; used = T.used; taken = t; place = T'.place; columns = T'.columns } in U) s.taken in
    let e₄ = ap (λ k. let U : Sheets = record { nodes = T.nodes; slots = T'.slots; used = T.used; taken = T.taken; place = k; columns = T'.columns } in U) s.place in
    let e₅ = ap (λ n. let U : Sheets = record { nodes = T.nodes; slots = T'.slots; used = T.used; taken = T.taken; place = T.place; columns = n } in U) s.columns in
    e₁ ∙ e₂ ∙ e₃ ∙ e₄ ∙ e₅

-- A node as it was found in these tables, with the cells that are left and the store then: its values lie in the slots, and once the next is taken the tables stand for the store after that.
pub record Seen (U : Sheets) (ps : List Path) (input : List ℕ) (S st : Store) (r : ℕ) (p : Path) (K : Kind) (v : View) (cs : List Cell) : Type 0 where
  pub mark : v.node.mark ≡ mark_of K
  pub left : v.node.done + length cs ≡ v.node.count
  pub children : v.node.children ≡ (node U r).children
  pub usable : (reached (spot_of U) v.gain).taken ≤ min (length U.slots) 1048576
  pub within : (reached (spot_of U) v.gain).place ≤ length input
  pub values : Values (advanced (reached (spot_of U) v.gain).taken (reached (spot_of U) v.gain).place 0 U) (st.texts p) v.node K cs
  pub room : IsSome v.gain → U.used + family_of v.node.mark ≤ min (length U.nodes) 65536
  pub records : K ≡ ENUM → st.records ≡ S.records
  pub made : (q : Path) → st.made q ≡ S.made q
  pub rooted : st.rooted ≡ S.rooted
  pub branching : K ≡ ENUM → Branching (S.nodes p)
  pub takes : (c : Cell) (ds : List Cell) (letters : ℕ) → cs ≡ c ∷ ds → letters ≡ letters_at K c → (more : List Path) × Reads (taken_in r v letters U) (ps ++ more) input (taken p K c ds st)

module _ (col : Meaning) (input : List ℕ) (T : Sheets) (slots : List ℕ) (ps : List Path) (S : Store) (h : Reads T ps input S) (size : length slots ≡ length T.slots) (spared : take T.taken slots ≡ take T.taken T.slots) (r : ℕ) (p : Path) (home : Home ps r p) (rooted : S.rooted ≡ true) (K : Kind) where
  -- the tables with these slots
  abbrev pub U : Sheets
  U = reslotted slots T

  -- they are spared
  pub spares : Spared T U
  spares = record { nodes = refl; used = refl; taken = refl; place = refl; columns = refl; size = size; slots = spared }

  -- and stand for the same store
  pub still : Reads U ps input S
  still = reads_spared T U ps input S h spares

  -- it was read before
  seen_before : (J : Kind) (cs : List Cell) → S.nodes p ≡ ready J cs → kin J K ≡ true → Seen U ps input S S r p K (known (mark_of K) (node T r)) cs
  seen_before J cs was is_kin =
      let k = subst (Kept U ps S p (node U r)) was (still.kept r p home) in
      let on : GoesOn U ps S (advanced U.taken U.place 0 U) ps S p =
      record { taken = omega arith; place = omega arith; slots = refl; homes = λ j o hj. hj; branches = λ i m. (m, refl) } in
      record {
        mark = refl;
        left = k.1;
        children = refl;
        usable = still.taken;
        within = still.within;
        values = values_on U ps S (advanced U.taken U.place 0 U) ps S p on (node U r) (known (mark_of K) (node T r)).node refl refl refl refl (S.texts p) (S.texts p) refl K cs k.1 (kin_values U (S.texts p) (node U r) cs J K is_kin k.2);
        room = λ e. absurd (false≢true e);
        records = λ e. refl;
        made = λ q. refl;
        rooted = refl;
        branching = λ e. subst Branching (sym was) (λ s f. kin_child s J ENUM (ap (kin J) (sym e) ∙ is_kin) f);
        takes = λ c ds letters e text.
            let t = takes_before U ps input S still r p home rooted J K c ds (was ∙ ap (ready J) e) is_kin (stepped letters (known (mark_of K) (node T r)).node) letters refl text in
            ([], subst (λ qs. Reads (taken_in r (known (mark_of K) (node T r)) letters U) qs input (taken p K c ds S)) (sym (append-nil ps)) t);
      }

  -- its columns were read just now
  seen_now : (n : ℕ) (cs : List Cell) (u : Supply) (g : Gain) → S.nodes p ≡ fresh n → Came U input S (node T r) K cs u g → Seen U ps input S (opened p K cs u S) r p K (found T (mark_of K) (node T r) g) cs
  seen_now n cs u g was came =
      record {
        mark = refl;
        left = omega (arith, came.count);
        children = refl;
        usable = came.usable;
        within = came.within;
        values = subst (λ s. Values (advanced g.spot.taken g.spot.place 0 U) s (found T (mark_of K) (node T r) g).node K cs) (sym (put_here p (first_text S u cs) S.texts)) came.values;
        room = λ e. came.room;
        records = λ e. let z = ap takes_of e in omega (arith, z);
        made = λ q. refl;
        rooted = refl;
        branching = λ e. subst Branching (sym was) (λ s f. absurd f);
        takes = λ c ds letters e text. (
          brought p K,
          subst (λ xs. Reads (taken_in r (found T (mark_of K) (node T r) g) letters U) (ps ++ brought p K) input (taken p K c ds (opened p K xs u S))) (sym e)
              (takes_first U ps input S still r p home rooted n was K c ds u g (subst (λ xs. Came U input S (node T r) K xs u g) e came) letters text),
        );
      }
    where
      takes_of : Kind → ℕ
      takes_of J = takes J

  -- so it is in each case, if what was read is what the definitions read
  pub seeing : ((n : ℕ) (cs : List Cell) (u : Supply) (v : View) → S.nodes p ≡ fresh n → T.used + family_of (mark_of K) ≤ min (length T.nodes) 65536 → fetch col S.columns K n (supply S.slots S.input) ≡ fetched cs u → Finds input T slots K (node T r) cs u v
      → (g : Gain) × (v ≡ found T (mark_of K) (node T r) g) × Came U input S (node T r) K cs u g)
      → (v : View) (cs : List Cell) (st : Store) → Viewed col input T slots S (node T r) p K v cs st → Seen U ps input S st r p K v cs
  seeing comes v cs st (before J was is_kin is same) = subst₂ (λ w s. Seen U ps input S s r p K w cs) (sym is) (sym same) (seen_before J cs was is_kin)
  seeing comes v cs st (now n u was room read finds same) =
      let (g, is, came) = comes n cs u v was room read finds in
      subst₂ (λ w s. Seen U ps input S s r p K w cs) (sym is) (sym same) (seen_now n cs u g was came)
