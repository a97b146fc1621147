-- Worked examples of the definitions, as one check that computes.
use Rattle.std.specs.Prelude.{ℕ, Bool, true, false, ◌&&◌, List, [], ◌∷◌, replicate, negsuc, Ok, Err, Result, ◌==◌}
use Rattle.column.specs.Flat.{flat}
use Rattle.column.specs.Short.{short_kind}
use Rattle.column.specs.Steps.{steps}
use Rattle.document.specs.declared.scalars.Scalar.TheVariants.{Bool as BIT, U8, U16, U32}
use Rattle.document.specs.declared.refusals.Refusal.{Refusal}
use Rattle.document.specs.declared.questions.Question.{Question}
use Rattle.document.specs.declared.questions.Question.TheVariants as questions
use Rattle.document.specs.declared.calls.Call.TheVariants as spoken
use Rattle.document.specs.Refusals.{number_of}
use Rattle.document.specs.Said.{said}
use Rattle.document.specs.Calls.{scalar, text, unit, none, some, variant, seq, map, tuple, Call, val, end}
use Rattle.document.specs.Nodes.{Path, root, ◌▹◌, elem, field, same}
use Rattle.document.specs.Places.{start}
use Rattle.document.specs.Trace.{trace}
use Rattle.document.specs.Bytes.{bytes}
use Rattle.document.specs.Records.{nodes_of}
use Rattle.document.specs.Columns.{length_bytes}
use Rattle.document.specs.Verdict.{Sizes, verdict}
use Rattle.document.specs.WriteOut.{write_out}
use Rattle.document.specs.Reader.{begin}
use Rattle.document.specs.Replay.{Replay, heard, stopped, replay, finish}

abbrev equal : List ℕ → List ℕ → Bool
equal [] [] = true
equal [] (y ∷ ys) = false
equal (x ∷ xs) [] = false
equal (x ∷ xs) (y ∷ ys) = x == y && equal xs ys

abbrev equal_nodes : List Path → List Path → Bool
equal_nodes [] [] = true
equal_nodes [] (q ∷ qs) = false
equal_nodes (p ∷ ps) [] = false
equal_nodes (p ∷ ps) (q ∷ qs) = same p q && equal_nodes ps qs

abbrev u8 : ℕ → Call
u8 n = val (scalar U8 n)

abbrev bit : ℕ → Call
bit n = val (scalar BIT n)

-- ---- bytes

-- a seq of two pairs of a seq and a number: the inner seq's element is needed after the number
abbrev pub late : List Call
late =
    val (seq 2)
    ∷ val (tuple 2) ∷ val (seq 0) ∷ end ∷ u8 0 ∷ end
    ∷ val (tuple 2) ∷ val (seq 1) ∷ bit 0 ∷ end ∷ u8 1 ∷ end
    ∷ end ∷ []

abbrev flat_bytes : List Call → List ℕ → Bool
flat_bytes cs bs = equal (bytes flat cs) bs

-- documents and their bytes
abbrev pub written : Bool
written =
    flat_bytes (val unit ∷ []) []
    && flat_bytes (val (scalar U16 258) ∷ []) (0x02 ∷ 0x01 ∷ [])
    && flat_bytes (said (spoken.I8 (negsuc 0)) ∷ []) (0xff ∷ [])
    && flat_bytes (val none ∷ []) (0x00 ∷ [])
    && flat_bytes (val (tuple 1) ∷ u8 7 ∷ end ∷ []) (0x07 ∷ [])
    && flat_bytes (val (map 1) ∷ u8 3 ∷ bit 1 ∷ end ∷ []) (0x01 ∷ 0x03 ∷ 0x01 ∷ [])
    && flat_bytes (val (text (0xc3 ∷ 0xa9 ∷ [])) ∷ []) (0x02 ∷ 0xc3 ∷ 0xa9 ∷ [])
    && flat_bytes (val (variant 255) ∷ val unit ∷ []) (0xff ∷ [])
    && equal (length_bytes flat (254 ∷ 255 ∷ [])) (0xfe ∷ 0xff ∷ 0xff ∷ replicate 7 0x00)
    && equal (bytes short_kind (val (scalar U32 300) ∷ [])) (0xac ∷ 0x02 ∷ [])
    && equal (bytes (steps flat) (val (seq 3) ∷ u8 10 ∷ u8 12 ∷ u8 9 ∷ end ∷ [])) (0x03 ∷ 0x0a ∷ 0x02 ∷ 0xfd ∷ [])
    && flat_bytes late (0x02 ∷ 0x00 ∷ 0x01 ∷ 0x00 ∷ 0x01 ∷ 0x00 ∷ [])

-- the nodes of the last one, in the order of their records
abbrev pub recorded : Bool
recorded = equal_nodes (nodes_of (trace start late)) (root ∷ (root ▹ elem) ∷ (root ▹ elem ▹ field 0) ∷ (root ▹ elem ▹ field 1) ∷ (root ▹ elem ▹ field 0 ▹ elem) ∷ [])

-- ---- refusals of the writer

abbrev roomy : Sizes
roomy = record { nodes = 100; cells = 100; text = 100 }

abbrev sized : ℕ → ℕ → ℕ → Sizes
sized n c t = record { nodes = n; cells = c; text = t }

abbrev refused_by : {X : Type 0} → ℕ → Result X Refusal → Bool
refused_by n (Ok x) = false
refused_by n (Err r) = n == number_of r

abbrev pub accepts : {X : Type 0} → Result X Refusal → Bool
accepts (Ok x) = true
accepts (Err r) = false

-- a call for each refusal, and what passes at the edges
abbrev pub refused_calls : Bool
refused_calls =
    refused_by 1 (verdict roomy (u8 7 ∷ []) end)
    && refused_by 2 (verdict roomy (val (seq 1) ∷ []) end)
    && refused_by 3 (verdict roomy (replicate 32 (val some)) (val some))
    && accepts (verdict roomy (replicate 31 (val some)) (val some))
    && refused_by 4 (verdict roomy (val (seq 2) ∷ val unit ∷ []) (u8 7))
    && refused_by 5 (verdict roomy [] (val (variant 256)))
    && refused_by 6 (verdict (sized 2 100 100) [] (val (seq 0)))
    && refused_by 6 (verdict (sized 1 100 100) [] (val unit))
    && refused_by 7 (verdict (sized 100 1 100) [] (u8 7))
    && refused_by 10 (verdict roomy [] (val (seq 2251799813685247)))
    && accepts (verdict roomy [] (val (seq 2251799813685246)))
    && refused_by 11 (verdict roomy [] (val (text (0xc3 ∷ []))))
    && refused_by 12 (verdict (sized 100 100 2) [] (val (text (0x61 ∷ 0x62 ∷ 0x63 ∷ []))))
    && refused_by 15 (write_out flat (val some ∷ []) 100 100)
    && refused_by 16 (write_out flat (u8 7 ∷ []) 0 100)
    && refused_by 17 (write_out flat (val (scalar U16 1) ∷ []) 100 1)

-- ---- refusals of the reader

abbrev stopped_by : ℕ → Replay → Bool
stopped_by n (heard cs bs) = false
stopped_by n (stopped r) = n == number_of r

-- a reader over flat columns with room enough, asked these questions, and finish
abbrev asking : List ℕ → List Question → Replay
asking bs qs = finish (replay flat bs (begin 100 100 bs) qs)

-- a question for each refusal
abbrev pub refused_questions : Bool
refused_questions =
    stopped_by 1 (asking (0x07 ∷ []) (questions.Scalar U8 ∷ questions.End ∷ []))
    && stopped_by 4 (asking (0x02 ∷ 0x07 ∷ 0x08 ∷ []) (questions.Seq false ∷ questions.Scalar U8 ∷ questions.Scalar BIT ∷ []))
    && stopped_by 8 (asking (0x07 ∷ []) (questions.Scalar U16 ∷ []))
    && stopped_by 9 (asking (0x02 ∷ []) (questions.Scalar BIT ∷ []))
    && stopped_by 11 (asking (0x01 ∷ 0xc3 ∷ []) (questions.Text ∷ []))
    && stopped_by 13 (asking (0x02 ∷ []) (questions.Option ∷ []))
    && stopped_by 14 (asking (0xff ∷ 0x01 ∷ 0x00 ∷ 0x01 ∷ 0x00 ∷ 0x00 ∷ 0x00 ∷ 0x00 ∷ 0x00 ∷ []) (questions.Seq true ∷ []))
    && stopped_by 15 (asking (0x01 ∷ []) (questions.Option ∷ []))
    && stopped_by 18 (asking (0x07 ∷ 0x00 ∷ []) (questions.Scalar U8 ∷ []))

-- all of them together
abbrev pub examples : Bool
examples = written && recorded && refused_calls && refused_questions
