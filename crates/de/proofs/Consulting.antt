-- A question that asks a value of a node: what the code answers is what the definitions answer.
use Rattle.std.proofs.Common.{◌≡◌, ℕ, suc, ◌+◌, ◌≤◌, Bool, true, false, cond, ◌&&◌, leb, eqb, ◌⊎◌, List, [], ◌∷◌, ◌++◌, length, min, Ok, Err, sym, refl, ap, ◌∙◌, subst, subst₂, inl, inr, ⊎_elim, append_assoc, arith}
use Rattle.std.proofs.lemmas.Bool.{cases_lt, le-ltb, cond-true, cond-false, eq-eqb, ne_eqb, lt-ltb, ltb-false, le-leb, leb-true, lt-leb}
use Rattle.std.specs.declared.option.Option.TheVariants as options
use Rattle.column.specs.Meaning.{Meaning}
use Rattle.document.specs.declared.refusals.Refusal.{Refusal}
use Rattle.document.specs.declared.refusals.Refusal.TheVariants as refusals
use Rattle.document.specs.declared.questions.Answer.{Answer}
use Rattle.document.specs.Calls.{Kind, TEXT, ENUM, Cell, num, str, Value, scalar, text, none, some, variant, seq, map, tuple, val}
use Rattle.document.specs.Nodes.{Path, ◌▹◌, alt}
use Rattle.document.specs.Places.{Place, opens, settle, too_many}
use Rattle.document.specs.Reader.{Ask, scalar?, text?, option?, variant?, seq?, map?, tuple?, asks, ready, Store, Look, found as found_there, lost, look, Reply, refuse, Worth, worth, worthless, worth_of, Child, childless, child as one_child, child_of as child_at, taken, with_child, recorded, give, pick, consult}
use Rattle.nodes.specs.Homes.{Home}
use Rattle.nodes.specs.Placed.{Opens}
use Rattle.nodes.proofs.Homes.{home-more, home-new}
use Rattle.de.specs.declared.records.Node.{Node as Row}
use Rattle.de.specs.declared.heard.Heard.{Heard}
use Rattle.de.specs.Moves.{Sheets, node, lacks_nodes, child_of, branch_in, spawned}
use Rattle.de.specs.Viewed.{View}
use Rattle.de.specs.Asked.{opens_place, branching, letters_of}
use Rattle.de.specs.Answered.{Answers, Within, Worthy, question_of}
use Rattle.de.specs.Reads.{Values, Kept, Reads}
use Rattle.de.specs.Served.{Spared, SameLengths, Hears, Replied}
use Rattle.de.specs.Taken.{taken_in, branched, branch_then, opened_at, occurrences}
use Rattle.de.specs.Hearing.{Heard as HeardAs}
use Rattle.de.proofs.Answering.{letters_at, deep_is, Branches, branches, Worths, worth_is, worthy_at, letters_is, opens_at}
use Rattle.de.proofs.Branching.{branch_made, branch_reads}
use Rattle.de.proofs.Taking.{put_here}
use Rattle.de.proofs.Viewing.{Sees, Viewed}
use Rattle.de.proofs.Seeing.{Seen}
use Rattle.de.proofs.Sizes.{lengths_trans, lengths_spared, lengths_taken, lengths_branched}

-- what looking refuses is refused
pub refused_view : (col : Meaning) (input : List ℕ) (T : Sheets) (slots : List ℕ) (ps : List Path) (S : Store) (r : ℕ) (p : Path) (a : Ask) (gs : List Place) (U : Sheets) (e : Refusal) → Spared T U → Sees col input T slots S (node T r) p (asks a) (look col p (asks a) S) (Err e)
    → Replied ps input gs T U (consult col S p gs a) (Err e)
refused_view col input T slots ps S r p a gs U e spares sees = go (look col p (asks a) S) sees
  where
    go : (L : Look) → Sees col input T slots S (node T r) p (asks a) L (Err e) → Replied ps input gs T U (pick p gs a L) (Err e)
    go (found_there cs st) (v, is, w) = cc
    go (lost d) is = let q : e ≡ d = cc in (ap Err q, spares)

-- what it finds is what the definitions find
pub found_view : (col : Meaning) (input : List ℕ) (T : Sheets) (slots : List ℕ) (S : Store) (r : ℕ) (p : Path) (K : Kind) (v : View) → Sees col input T slots S (node T r) p K (look col p K S) (Ok v)
    → (cs : List Cell) × (st : Store) × (look col p K S ≡ found_there cs st) × Viewed col input T slots S (node T r) p K v cs st
found_view col input T slots S r p K v sees = go (look col p K S) refl sees
  where
    go : (L : Look) → look col p K S ≡ L → Sees col input T slots S (node T r) p K L (Ok v) → (cs : List Cell) × (st : Store) × (look col p K S ≡ found_there cs st) × Viewed col input T slots S (node T r) p K v cs st
    go (found_there cs st) e (w, is, h) = let same : w ≡ v = cc in (cs, st, e, subst (λ y. Viewed col input T slots S (node T r) p K y cs st) same h)
    go (lost d) e is = cc

-- a node's values at its texts
text_start : (T : Sheets) (start : ℕ) (v : View) (K : Kind) (cs : List Cell) → K ≡ TEXT → Values T start v.node K cs → v.node.text ≡ start
text_start T start v K cs e h = (subst (λ J. Values T start v.node J cs) e h).1

-- an index is that of an ENUM node
pub is_enum : (a : Ask) (c : Cell) (w : Value) (x : Answer) (place : ℕ) → worth_of a c ≡ worth w → Answers x (val w) place → (p : Path) (i : ℕ) → branching x ≡ options.Some i → asks a ≡ ENUM
is_enum a c w x place worths ans p i e = go a (worth_is a c w worths)
  where
    bare : (y : Value) → w ≡ y → Branches p x (child_at p y)
    bare y s = subst (λ z. Branches p x (child_at p z)) s (branches x w place p ans)

    go : (b : Ask) → Worths b c w → asks b ≡ ENUM
    go (scalar? k) s = let z = bare (scalar k (num c)) s in cc
    go text? s = let z = bare (text (str c)) s in cc
    go option? s = refl
    go variant? s = refl
    go (seq? flag) s = let z = bare (seq (num c)) s in cc
    go (map? flag) s = let z = bare (map (num c)) s in cc
    go (tuple? n) s = let z = bare (tuple n) s in cc

-- a text lies in what was read, and so in the input
lies_in : (input : List ℕ) (a : Ask) (c : Cell) (w : Value) → worth_of a c ≡ worth w → (T : Sheets) (start : ℕ) (x : Row) (ds : List Cell) → Values T start x (asks a) (c ∷ ds) → T.place ≤ length input → Within input (val w) start
lies_in input a c w worths T start x ds v l = go a (worth_is a c w worths) v
  where
    plain : (y : Value) → w ≡ y → Within input (val y) start → Within input (val w) start
    plain y s h = subst (λ z. Within input (val z) start) (sym s) h

    go : (b : Ask) → Worths b c w → Values T start x (asks b) (c ∷ ds) → Within input (val w) start
    go (scalar? k) s u = plain (scalar k (num c)) s tt
    go text? s u = plain (text (str c)) s (omega (arith, u.1, u.2, u.3.0))
    go option? s u = ⊎_elim (λ q. plain none q tt) (λ q. plain some q tt) s
    go variant? s u = plain (variant (num c)) s tt
    go (seq? flag) s u = plain (seq (num c)) s tt
    go (map? flag) s u = plain (map (num c)) s tt
    go (tuple? n) s u = plain (tuple n) s tt

-- A question is asked at the record r of the node p, where places gs are open: the tables T were looked at, which made them U,
-- and the node was seen as v, with these cells left and this store.
pub record Asked (T U : Sheets) (ps : List Path) (input : List ℕ) (S st : Store) (r : ℕ) (p : Path) (a : Ask) (gs : List Place) (deep : Bool) (v : View) (cs : List Cell) : Type 0 where
  pub reads : Reads U ps input S
  pub spares : Spared T U
  pub rooted : S.rooted ≡ true
  pub home : Home ps r p
  pub few : length gs ≤ 33
  pub deep_at : deep ≡ too_many (suc (length gs))
  pub seen : Seen U ps input S st r p (asks a) v cs

-- An answer is the value of the first of these cells.
pub record NextValue (st : Store) (p : Path) (a : Ask) (cs : List Cell) (x : Answer) : Type 0 where
  pub cell : Cell
  pub rest : List Cell
  pub value : Value
  pub next : cs ≡ cell ∷ rest
  pub worths : worth_of a cell ≡ worth value
  pub answers : Answers x (val value) (st.texts p)

module _ {T U : Sheets} {ps : List Path} {input : List ℕ} {S st : Store} {r : ℕ} {p : Path} {a : Ask} {gs : List Place} {deep : Bool} {v : View} {cs : List Cell} (Q : Asked T U ps input S st r p a gs deep v cs) where
  -- what hearing refuses is refused
  pub refused_answer : (e : Refusal) → HeardAs a cs v.node.text (Err e) → Replied ps input gs T U (pick p gs a (found_there cs st)) (Err e)
  refused_answer e heard = go cs heard
    where
      of_worth : (c : Cell) (ds : List Cell) (w : Worth) → Worthy w v.node.text (Err e) → Replied ps input gs T U (give p gs (asks a) c ds st w) (Err e)
      of_worth c ds (worth x) (y, is, ans) = cc
      of_worth c ds (worthless d) is = let q : e ≡ d = cc in (ap Err q, Q.spares)

      go : (ds : List Cell) → HeardAs a ds v.node.text (Err e) → Replied ps input gs T U (pick p gs a (found_there ds st)) (Err e)
      go [] is = let q : e ≡ refusals.Count = cc in (ap Err q, Q.spares)
      go (c ∷ ds) w = of_worth c ds (worth_of a c) w

  -- what it answers is the next cell's value
  pub heard_value : (x : Answer) → HeardAs a cs v.node.text (Ok x) → NextValue st p a cs x
  heard_value x heard = go cs refl heard
    where
      of_worth : (c : Cell) (ds : List Cell) → cs ≡ c ∷ ds → (w : Worth) → worth_of a c ≡ w → Worthy w (st.texts p) (Ok x) → NextValue st p a cs x
      of_worth c ds e (worth w) q (y, is, ans) = let same : y ≡ x = cc in record { cell = c; rest = ds; value = w; next = e; worths = q; answers = subst (λ z. Answers z (val w) (st.texts p)) same ans }
      of_worth c ds e (worthless d) q is = cc

      go : (es : List Cell) → cs ≡ es → HeardAs a es v.node.text (Ok x) → NextValue st p a cs x
      go [] e is = cc
      go (c ∷ ds) e w = of_worth c ds e (worth_of a c) refl (worthy_at a c (Ok x) v.node.text (st.texts p) w (λ k. text_start _ (st.texts p) v (asks a) cs k Q.seen.values))

  module _ (x : Answer) (N : NextValue st p a cs x) where
    -- the cell, those left after it, and the value
    abbrev c : Cell
    c = N.cell

    abbrev ds : List Cell
    ds = N.rest

    abbrev w : Value
    w = N.value

    -- the store once the value is taken
    abbrev st' : Store
    st' = taken p (asks a) c ds st

    -- the definitions' answer
    abbrev told : Reply
    told = recorded (val w) (st.texts p) (settle (opens p w ++ gs)) st' (child_at p w)

    -- whether its place is one too many
    too_deep : too_many (length (opens p w ++ gs)) ≡ (deep && opens_place x)
    too_deep = deep_is x w (st.texts p) p gs deep N.answers Q.few Q.deep_at

    -- the child that it leads to
    leads_to : Branches p x (child_at p w)
    leads_to = branches x w (st.texts p) p N.answers

    -- only an ENUM node has one
    pub enum_at : (i : ℕ) → branching x ≡ options.Some i → asks a ≡ ENUM
    enum_at i b = is_enum a c w x (st.texts p) N.worths N.answers p i b

    -- what the definitions answer, by whether its place is one too many
    picked : (b : Bool) → too_many (length (opens p w ++ gs)) ≡ b → pick p gs a (found_there cs st) ≡ cond b (refuse refusals.Depth) told
    picked b e = ap (λ es. pick p gs a (found_there es st)) N.next ∙ ap (give p gs (asks a) c ds st) N.worths ∙ ap (λ d. cond d (refuse refusals.Depth) told) e

    -- a place too many
    pub refused_depth : (deep && opens_place x) ≡ true → Replied ps input gs T U (pick p gs a (found_there cs st)) (Err refusals.Depth)
    refused_depth e = subst (λ m. Replied ps input gs T U m (Err refusals.Depth)) (sym (picked true (too_deep ∙ e))) (refl, Q.spares)

    module _ (shallow : (deep && opens_place x) ≡ false) where
      -- no place too many is opened
      roomy : length (opens p w ++ gs) ≤ 33
      roomy = ltb-false 33 (length (opens p w ++ gs)) (too_deep ∙ shallow)

      -- the definitions answer
      picked_told : pick p gs a (found_there cs st) ≡ told
      picked_told = picked false (too_deep ∙ shallow)

      -- its child is found as the definitions find it
      known_child : (i : ℕ) → asks a ≡ ENUM → ((child_of U v.node i ≡ 0) × (S.made (p ▹ alt i) ≡ false)) ⊎ (Home ps (child_of U v.node i) (p ▹ alt i) × (S.made (p ▹ alt i) ≡ true))
      known_child i e = branch_made U ps input S Q.reads r p Q.home (Q.seen.branching e) v.node Q.seen.children i

      -- whether a record is free
      free_is : asks a ≡ ENUM → leb 1 st'.records ≡ cond (lacks_nodes U 1) false true
      free_is e =
          let same = Q.seen.records e in
          let room = Q.reads.room Q.rooted in
          elim (cases_lt (min (length U.nodes) 65536) (U.used + 1)) [
            | inl l ↦ lt-leb 1 st'.records (omega (arith, Q.reads.records)) ∙ sym (ap (λ b. cond b false true) (lt-ltb _ _ l))
            | inr l ↦ le-leb 1 st'.records (omega (arith, Q.reads.records)) ∙ sym (ap (λ b. cond b false true) (le-ltb _ _ l))
          ]

      -- without a record it is new
      none_made : (i : ℕ) → asks a ≡ ENUM → child_of U v.node i ≡ 0 → S.made (p ▹ alt i) ≡ false
      none_made i e z = ⊎_elim (λ n. n.1) (λ f. absurd (omega (arith, f.0.0))) (known_child i e)

      -- no record for a new branch
      pub refused_nodes : (i : ℕ) → branching x ≡ options.Some i → child_of U v.node i ≡ 0 → lacks_nodes U 1 ≡ true → Replied ps input gs T U (pick p gs a (found_there cs st)) (Err refusals.Nodes)
      refused_nodes i e missing lacks = subst (λ m. Replied ps input gs T U m (Err refusals.Nodes)) (sym picked_told) (go (child_at p w) leads_to)
        where
          go : (k : Child) → Branches p x k → Replied ps input gs T U (recorded (val w) (st.texts p) (settle (opens p w ++ gs)) st' k) (Err refusals.Nodes)
          go childless b = cc
          go (one_child q) (j, b, is) =
              let same : j ≡ i = cc in
              let enum = enum_at i e in
              let unmade : st'.made q ≡ false = ap st'.made (is ∙ ap (λ k. p ▹ alt k) same) ∙ Q.seen.made (p ▹ alt i) ∙ none_made i enum missing in
              subst (λ m. Replied ps input gs T U m (Err refusals.Nodes)) (sym (cond-false (st'.made q) _ _ unmade ∙ cond-false (leb 1 st'.records) _ _ (free_is enum ∙ ap (λ b. cond b false true) lacks))) (refl, Q.spares)

      -- the tables once the answer is taken, and its place
      module _ (T' : Sheets) (child : ℕ) (is_child : child ≡ branch_in U v.node (branching x)) (is_taken : T' ≡ branched r child (branching x) (taken_in r v (letters_of x) U)) (room : (i : ℕ) → branching x ≡ options.Some i → child ≡ 0 → lacks_nodes U 1 ≡ false) where
        -- the record of the child, and what is heard
        abbrev k' : ℕ
        k' = branch_then child (branching x) (taken_in r v (letters_of x) U)

        abbrev heard : Heard
        heard = record { answer = x; opened = opened_at T' r k' (question_of a) x }

        -- the tables stand for a store in which the node's record is as it is then
        opens_in : (qs : List Path) (S' : Store) (J : List Cell) → Reads T' qs input S' → Home qs r p → S'.nodes p ≡ ready (asks a) J → ((i : ℕ) → branching x ≡ options.Some i → Home qs k' (p ▹ alt i)) → Opens qs heard.opened (opens p w)
        opens_in qs S' es reads there is kin = opens_at a c w x (st.texts p) N.worths N.answers T' qs S' r k' p there (subst (Kept T' qs S' p (node T' r)) is (reads.kept r p there)).3 kin

        -- a text's answer names a part of the input
        lies : Within input (val w) (st.texts p)
        lies = lies_in input a c w N.worths _ (st.texts p) v.node ds (subst (Values _ (st.texts p) v.node (asks a)) N.next Q.seen.values) Q.seen.within

        -- the answer has its cell's text bytes
        letters : letters_of x ≡ letters_at (asks a) c
        letters = letters_is a c w x (st.texts p) N.worths N.answers

        -- the tables keep their lengths
        same_lengths : SameLengths T T'
        same_lengths =
            let V = taken_in r v (letters_of x) U in
            lengths_trans (lengths_spared Q.spares) (lengths_trans (lengths_taken r v (letters_of x) U) (subst (SameLengths V) (sym is_taken) (lengths_branched r child (branching x) V)))

        -- taken without a new record
        taken_plain : taken_in r v (letters_of x) U ≡ T' → ((qs : List Path) (i : ℕ) → branching x ≡ options.Some i → Home (ps ++ qs) k' (p ▹ alt i)) → Hears ps input gs (opens p w) T T' st' heard
        taken_plain same kin =
            let (more, reads) = Q.seen.takes c ds (letters_of x) N.next letters in
            let reads' = subst (λ X. Reads X (ps ++ more) input st') same reads in
            record { more = more; reads = reads'; opens = opens_in (ps ++ more) st' ds reads' (home-more ps more r p Q.home) (put_here p (ready (asks a) ds) st.nodes) (kin more); few = roomy; lengths = same_lengths }

        -- .. or with one for a new branch
        taken_new : (i : ℕ) → branching x ≡ options.Some i → asks a ≡ ENUM → child ≡ 0 → st'.made (p ▹ alt i) ≡ false → 1 ≤ st'.records → Hears ps input gs (opens p w) T T' (with_child (p ▹ alt i) st') heard
        taken_new i b enum missing unmade free =
            let (more, reads) = Q.seen.takes c ds (letters_of x) N.next letters in
            let V = taken_in r v (letters_of x) U in
            let q = p ▹ alt i in
            let qs = ps ++ more in
            let there = home-more ps more r p Q.home in
            let is : st'.nodes p ≡ ready ENUM ds = put_here p (ready (asks a) ds) st.nodes ∙ ap (λ J. ready J ds) enum in
            let reads' = branch_reads V qs input st' reads r p there ds is i unmade free in
            let tables : spawned r i (occurrences V (node V r) i) V ≡ T' =
            sym (is_taken ∙ ap (λ o. branched r child o V) b ∙ cond-true (eqb child 0) (spawned r i (occurrences V (node V r) i) V) V (eq-eqb child 0 missing)) in
            let place : k' ≡ 1 + length qs = ap (λ o. branch_then child o V) b ∙ cond-true (eqb child 0) V.used child (eq-eqb child 0 missing) ∙ reads.linked.used in
            let ours = append_assoc ps more (q ∷ []) in
            let reads'' = subst₂ (λ X xs. Reads X xs input (with_child q st')) tables ours reads' in
            let home'' = subst (λ xs. Home xs r p) ours (home-more qs (q ∷ []) r p there) in
            record {
              more = more ++ q ∷ [];
              reads = reads'';
              opens = opens_in (ps ++ (more ++ q ∷ [])) (with_child q st') ds reads'' home'' (put_here p (ready (asks a) ds) st.nodes)
                  (λ j e. let same : i ≡ j = cc in subst₂ (λ xs k. Home xs k' (p ▹ alt k)) ours same (subst (λ k. Home (qs ++ q ∷ []) k q) (sym place) (home-new qs q)));
              few = roomy;
              lengths = same_lengths;
            }

        -- so it is in each case
        pub answered : Replied ps input gs T T' (pick p gs a (found_there cs st)) (Ok heard)
        answered = subst (λ m. Replied ps input gs T T' m (Ok heard)) (sym picked_told) (go (child_at p w) leads_to)
          where
            V : Sheets
            V = taken_in r v (letters_of x) U

            go : (k : Child) → Branches p x k → Replied ps input gs T T' (recorded (val w) (st.texts p) (settle (opens p w ++ gs)) st' k) (Ok heard)
            go childless b = (heard, opens p w, refl, N.answers, lies, refl, taken_plain (sym (is_taken ∙ ap (λ o. branched r child o V) b)) (λ qs i e. cc))
            go (one_child q) (i, b, is) =
                ⊎_elim fresh_branch old_branch (known_child i (enum_at i b))
              where
                at_child : child ≡ child_of U v.node i
                at_child = is_child ∙ ap (branch_in U v.node) b

                before : st'.made q ≡ S.made (p ▹ alt i)
                before = ap st'.made is ∙ Q.seen.made (p ▹ alt i)

                fresh_branch : (child_of U v.node i ≡ 0) × (S.made (p ▹ alt i) ≡ false) → Replied ps input gs T T' (recorded (val w) (st.texts p) (settle (opens p w ++ gs)) st' (one_child q)) (Ok heard)
                fresh_branch n =
                    let enum = enum_at i b in
                    let missing = at_child ∙ n.0 in
                    let unmade = before ∙ n.1 in
                    let free = free_is enum ∙ ap (λ d. cond d false true) (room i b missing) in
                    subst (λ m. Replied ps input gs T T' m (Ok heard)) (sym (cond-false (st'.made q) _ _ unmade ∙ cond-true (leb 1 st'.records) _ _ free))
                    (heard, opens p w, refl, N.answers, lies, refl, subst (λ o. Hears ps input gs (opens p w) T T' (with_child o st') heard) (sym is) (taken_new i b enum missing (ap st'.made (sym is) ∙ unmade) (leb-true 1 st'.records free)))

                old_branch : Home ps (child_of U v.node i) (p ▹ alt i) × (S.made (p ▹ alt i) ≡ true) → Replied ps input gs T T' (recorded (val w) (st.texts p) (settle (opens p w ++ gs)) st' (one_child q)) (Ok heard)
                old_branch f =
                    let there : child ≡ 0 → ⊥ = λ z. omega (arith, f.0.0, at_child) in
                    let tables : T' ≡ V = is_taken ∙ ap (λ o. branched r child o V) b ∙ cond-false (eqb child 0) (spawned r i (occurrences V (node V r) i) V) V (ne_eqb child 0 there) in
                    let place : k' ≡ child_of U v.node i = ap (λ o. branch_then child o V) b ∙ cond-false (eqb child 0) V.used child (ne_eqb child 0 there) ∙ at_child in
                    subst (λ m. Replied ps input gs T T' m (Ok heard)) (sym (cond-true (st'.made q) _ _ (before ∙ f.1)))
                    (heard, opens p w, refl, N.answers, lies, refl, taken_plain (sym tables) (λ qs j e. let same : i ≡ j = cc in subst₂ (λ k n. Home (ps ++ qs) k (p ▹ alt n)) (sym place) same (home-more ps qs (child_of U v.node i) (p ▹ alt i) f.0)))
