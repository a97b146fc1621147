-- An answer counts what the call that is heard of it does.
use Rattle.std.proofs.Common.{◌≡◌, ℕ, ◌+◌, ◌%◌, ◌^◌, ◌≤◌, List, [], ◌∷◌, length, take, drop, Ok, Err, Result, sym, refl, ap, ◌∙◌, arith}
use Rattle.std.proofs.lemmas.List.{length-take-le, length-drop}
use Rattle.document.specs.declared.refusals.Refusal.{Refusal}
use Rattle.document.specs.declared.refusals.Refusal.TheVariants as refusals
use Rattle.document.specs.declared.scalars.Scalar.{Scalar}
use Rattle.document.specs.declared.questions.Answer.{Answer}
use Rattle.document.specs.declared.questions.Answer.TheVariants as answers
use Rattle.document.specs.Calls.{scalar, text, unit, none, some, variant, seq, map, tuple, Call, val, end}
use Rattle.document.specs.Numbers.{Is}
use Rattle.document.specs.Places.{Place}
use Rattle.document.specs.Replay.{Replay, heard, stopped, also, ending, finish, hearing}
use Rattle.de.specs.Answered.{Answers, Within}
use Rattle.de.specs.Standing.{ended}
use Rattle.bench.specs.declared.tally.Tally.{Tally}
use Rattle.bench.specs.Tallies.{amount}
use Rattle.bench.specs.Hearing.{count_of, Counts}

-- a number
number-counts : (a : Answer) (k : Scalar) (b : ℕ) → Is a k b → amount a ≡ b
number-counts (answers.Bool x) k b (e, f) = sym f
number-counts (answers.U8 x) k b (e, f) = sym f
number-counts (answers.U16 x) k b (e, f) = sym f
number-counts (answers.U32 x) k b (e, f) = sym f
number-counts (answers.U64 x) k b (e, f) = sym f
number-counts (answers.I8 z) k b (e, f) = sym f
number-counts (answers.I16 z) k b (e, f) = sym f
number-counts (answers.I32 z) k b (e, f) = sym f
number-counts (answers.I64 z) k b (e, f) = sym f
number-counts (answers.F32 x) k b (e, f) = sym f
number-counts (answers.Text place size) k b h = absurd h
number-counts answers.Unit k b h = absurd h
number-counts answers.None k b h = absurd h
number-counts answers.Some k b h = absurd h
number-counts (answers.Variant i) k b h = absurd h
number-counts (answers.Seq m) k b h = absurd h
number-counts (answers.Map m) k b h = absurd h
number-counts answers.Tuple k b h = absurd h
number-counts answers.End k b h = absurd h

-- the part of the input that a text's answer names is as long as the text
part-length : (size place : ℕ) (input : List ℕ) → place + size ≤ length input → length (take size (drop place input)) ≡ size
part-length size place input w =
    let rest = length-drop place input in
    let room : size ≤ length (drop place input) = omega (arith, rest, w) in
    length-take-le size (drop place input) room

-- any answer
pub counts-as : (a : Answer) (c : Call) (place : ℕ) (input : List ℕ) → Answers a c place → Within input c place → amount a ≡ count_of (hearing input c place)
counts-as a (val (scalar k b)) place input h w = number-counts a k b h
counts-as a (val (text bs)) place input h w = ap amount h ∙ sym (part-length (length bs) place input w)
counts-as a (val unit) place input h w = ap amount h
counts-as a (val none) place input h w = ap amount h
counts-as a (val some) place input h w = ap amount h
counts-as a (val (variant i)) place input h w = ap amount h
counts-as a (val (seq n)) place input h w = ap amount h
counts-as a (val (map n)) place input h w = ap amount h
counts-as a (val (tuple n)) place input h w = ap amount h
counts-as a end place input h w = ap amount h

-- one call more
pub counts-also : (s : ℕ) (c : Call) (X : Replay) (x : Result Tally Refusal) → Counts ((s + count_of c) % 2 ^ 64) (finish X) x → Counts s (finish (also c X)) x
counts-also s c (heard cs []) x h = h
counts-also s c (heard cs (b ∷ bs)) x h = h
counts-also s c (stopped e) x h = h

-- finish ends it
pub counts-end : (t : Tally) (places : List Place) (input : List ℕ) → ended places input ≡ Ok tt → Counts t.answers (finish (ending places input)) (Ok t)
counts-end t [] [] e = (t, refl, refl)
counts-end t [] (b ∷ bs) e = cc
counts-end t (f ∷ fs) bs e = cc

pub counts-refused : (s : ℕ) (r : Refusal) (places : List Place) (input : List ℕ) → ended places input ≡ Err r → Counts s (finish (ending places input)) (Err r)
counts-refused s r [] [] e = cc
counts-refused s r [] (b ∷ bs) e = let same : r ≡ refusals.Left = cc in ap Err same
counts-refused s r (f ∷ fs) bs e = let same : r ≡ refusals.Early = cc in ap Err same
