-- The next value of a node fits: its text lies in what was read, and its index is one of 256.
use Rattle.std.proofs.Common.{◌≡◌, ℕ, ◌+◌, ◌^◌, ◌<◌, ◌≤◌, List, ◌∷◌, subst, ⊎_elim, arith}
use Rattle.std.specs.declared.option.Option.TheVariants as options
use Rattle.document.specs.declared.questions.Answer.{Answer}
use Rattle.document.specs.declared.questions.Question.{Question}
use Rattle.document.specs.declared.questions.Question.TheVariants as questions
use Rattle.document.specs.Calls.{Kind, SCALAR, TEXT, SEQ, MAP, ENUM, UNIT, TUPLE, Cell, num, str, Value, scalar, text, none, some, variant, seq, map, tuple, val}
use Rattle.document.specs.Nodes.{root}
use Rattle.document.specs.Reader.{Ask, scalar?, text?, option?, variant?, seq?, map?, tuple?, asks, worth, worth_of, child_of as child_at, taken}
use Rattle.de.specs.declared.records.Node.{Node as Row}
use Rattle.de.specs.declared.view.Sight.{Sight}
use Rattle.de.specs.Moves.{Sheets, advanced}
use Rattle.de.specs.Asked.{branching}
use Rattle.de.specs.Answered.{Answers}
use Rattle.de.specs.Reads.{Values}
use Rattle.de.specs.Hearing.{Stands, HearSafe}
use Rattle.de.proofs.Answering.{letters_at, Worths, worth_is, Branches, branches}

-- a text lies in what was read
pub text_fits : (T : Sheets) (start : ℕ) (x : Row) (K : Kind) (c : Cell) (cs : List Cell) (letters : ℕ) → Values T start x K (c ∷ cs) → letters ≡ letters_at K c → 0 < letters → x.text + letters ≤ T.place
text_fits T start x (SCALAR k) c cs letters v e l = absurd (omega arith)
text_fits T start x TEXT c cs letters v e l = omega (arith, v.2, v.3.0)
text_fits T start x SEQ c cs letters v e l = absurd (omega arith)
text_fits T start x MAP c cs letters v e l = absurd (omega arith)
text_fits T start x ENUM c cs letters v e l = absurd (omega arith)
text_fits T start x UNIT c cs letters v e l = absurd (omega arith)
text_fits T start x (TUPLE n) c cs letters v e l = absurd (omega arith)

-- an index is one of 256
pub index_fits : (T : Sheets) (start : ℕ) (x : Row) (a : Ask) (c : Cell) (cs : List Cell) (w : Value) (y : Answer) (place : ℕ) → worth_of a c ≡ worth w → Answers y (val w) place → Values T start x (asks a) (c ∷ cs) → asks a ≡ ENUM → (i : ℕ) → branching y ≡ options.Some i → i < 256
index_fits T start x a c cs w y place worths ans v enum i e = go a enum v (worth_is a c w worths)
  where
    bare : (z : Value) → w ≡ z → Branches root y (child_at root z)
    bare z s = subst (λ u. Branches root y (child_at root u)) s (branches y w place root ans)

    go : (b : Ask) → asks b ≡ ENUM → Values T start x (asks b) (c ∷ cs) → Worths b c w → i < 256
    go (scalar? k) is u s = let z = bare (scalar k (num c)) s in cc
    go text? is u s = let z = bare (text (str c)) s in cc
    go option? is u s = ⊎_elim
        (λ q. let z = bare none q in cc)
        (λ q. let z = bare some q in let n : 1 ≡ i = cc (z.1, z.2, e) in omega arith)
        s
    go variant? is u s = let z = bare (variant (num c)) s in let n : num c ≡ i = cc (z.1, z.2, e) in let f : num c < 2 ^ 8 = u.1.0 in omega arith
    go (seq? flag) is u s = let z = bare (seq (num c)) s in cc
    go (map? flag) is u s = let z = bare (map (num c)) s in cc
    go (tuple? n) is u s = let z = bare (tuple n) s in cc

-- hearing looks at the slots alone
pub hear_safe_at : (U : Sheets) (taken place : ℕ) {x : Sight} {q : Question} → HearSafe (advanced taken place 0 U) x q → HearSafe U x q
hear_safe_at U taken place {x} {q} h = record { left = h.left; stands = λ l. go q (h.stands l) }
  where
    go : (q : Question) → Stands (advanced taken place 0 U) x q → Stands U x q
    go (questions.Scalar k) s = s
    go questions.Text s = s
    go questions.Unit s = s
    go questions.Option s = s
    go questions.Variant s = s
    go (questions.Seq flag) s = s
    go (questions.Map flag) s = s
    go (questions.Tuple n) s = s
    go questions.End s = s
