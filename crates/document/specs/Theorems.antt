-- What holds of documents, over every lawful column kind.
use Rattle.std.specs.Prelude.{◌≡◌, ℕ, ◌+◌, ◌≤◌, Bool, false, T, ◌≢◌, ◌↔◌, List, [], ◌∷◌, ◌++◌, length}
use Rattle.column.specs.Meaning.{Meaning, Lawful}
use Rattle.document.specs.declared.questions.Question.{Question}
use Rattle.document.specs.Calls.{total, extent, Call, val, end}
use Rattle.document.specs.Nodes.{Path, root, ◌▹◌, Step, demands}
use Rattle.document.specs.Entries.{Entry, at}
use Rattle.document.specs.Places.{Place, there, next, start, Complete, Runs}
use Rattle.document.specs.Grammar.{Document}
use Rattle.document.specs.Trace.{trace, places_after}
use Rattle.document.specs.Bytes.{bytes}
use Rattle.document.specs.Tables.{records_of}
use Rattle.document.specs.Records.{nodes_of, times}
use Rattle.document.specs.Verdict.{Sizes, Accepted, Done}
use Rattle.document.specs.Said.{asked}
use Rattle.document.specs.Reader.{begin}
use Rattle.document.specs.Replay.{replay, finish, heard}

-- The open places take exactly the beginnings of documents, and are done exactly at documents.
pub record Grammatical : Type 0 where
  pub done : (cs : List Call) → Complete start cs ↔ Document cs
  pub begun : (cs : List Call) → Runs start cs ↔ ((more : List Call) × Document (cs ++ more))

-- Each node has as many values as its parent's values demand of it, and the root one.
abbrev pub Conservation : Type 0
Conservation = (sizes : Sizes) (cs : List Call) → Accepted sizes cs → Done cs
    → (length (at root (trace start cs)) ≡ 1) × ((p : Path) (s : Step) → length (at (p ▹ s) (trace start cs)) ≡ total (demands s) (at p (trace start cs)))

-- Node records: as many as the tables are charged for, no node with two, and one at each node that has a value or at which one is next.
pub record Allocation : Type 0 where
  pub count : (ts : List Entry) → length (nodes_of ts) ≡ 1 + records_of ts
  pub once : (ts : List Entry) (q : Path) → times q (nodes_of ts) ≤ 1
  pub visited : (sizes : Sizes) (cs : List Call) → Accepted sizes cs → (q : Path) → at q (trace start cs) ≢ [] → times q (nodes_of (trace start cs)) ≡ 1
  pub awaited : (sizes : Sizes) (cs : List Call) → Accepted sizes cs → (f g : Place) (fs : List Place) (q : Path) → places_after start cs ≡ f ∷ fs → next f ≡ there q g → times q (nodes_of (trace start cs)) ≡ 1

-- q asks for the call c, flagged only where its length is no more than 65,536
abbrev pub Asks : Question → Call → Type 0
Asks q (val v) = (flag : Bool) × (q ≡ asked flag (val v)) × (T flag → extent v ≤ 65536)
Asks q end = q ≡ asked false end

-- each question asks for the call at its place
abbrev pub Asked : List Question → List Call → Type 0
Asked [] [] = Unit {0}
Asked [] (c ∷ cs) = ⊥
Asked (q ∷ qs) [] = ⊥
Asked (q ∷ qs) (c ∷ cs) = Asks q c × Asked qs cs

-- A reader over the bytes of an accepted document, with tables no smaller than the writer's, asked each call's question, hears the calls:
-- none is refused, and what follows the document is left.
abbrev pub ReplaysWithin : Type 0
ReplaysWithin = (col : Meaning) → Lawful col → (sizes : Sizes) (cs : List Call) → Accepted sizes cs → Done cs → (qs : List Question) → Asked qs cs
    → (nodes slots : ℕ) → sizes.nodes ≤ nodes → sizes.cells ≤ slots → (after : List ℕ)
    → replay col (bytes col cs ++ after) (begin nodes slots (bytes col cs ++ after)) qs ≡ heard cs after

-- With nothing after it, finish is accepted.
abbrev pub Replays : Type 0
Replays = (col : Meaning) → Lawful col → (sizes : Sizes) (cs : List Call) → Accepted sizes cs → Done cs → (qs : List Question) → Asked qs cs
    → (nodes slots : ℕ) → sizes.nodes ≤ nodes → sizes.cells ≤ slots
    → finish (replay col (bytes col cs) (begin nodes slots (bytes col cs)) qs) ≡ heard cs []

-- Two lists are asked alike: they are equal, or at the first place where they differ both calls ask the same question.
pub data AskedAlike : List Call → List Call → Type 0 where
  equal : {cs : List Call} → AskedAlike cs cs
  later : {c : Call} {cs ds : List Call} → AskedAlike cs ds → AskedAlike (c ∷ cs) (c ∷ ds)
  apart : {c d : Call} {cs ds : List Call} → asked false c ≡ asked false d → c ≢ d → AskedAlike (c ∷ cs) (d ∷ ds)

-- Two accepted documents that are asked alike have the same bytes exactly when they are equal.
abbrev pub Faithful : Type 0
Faithful = (col : Meaning) → Lawful col → (one two : Sizes) (cs ds : List Call) → Accepted one cs → Done cs → Accepted two ds → Done ds → AskedAlike cs ds
    → (bytes col cs ≡ bytes col ds) ↔ (cs ≡ ds)
