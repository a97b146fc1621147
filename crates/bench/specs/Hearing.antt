-- What is heard of a document: the sum of what all answers say.
use Rattle.std.specs.Prelude.{◌≡◌, ℕ, ◌+◌, ◌%◌, ◌^◌, List, [], ◌∷◌, length, Ok, Err, Result}
use Rattle.document.specs.declared.refusals.Refusal.{Refusal}
use Rattle.document.specs.Calls.{scalar, text, unit, none, some, variant, seq, map, tuple, Call, val, end}
use Rattle.document.specs.Reader.{Reply, reply, refuse}
use Rattle.document.specs.Replay.{Replay, heard, stopped, hearing}
use Rattle.de.specs.declared.reader.Reader.{Reader}
use Rattle.de.specs.Readers.{StandsFor}
use Rattle.bench.specs.declared.tally.Tally.{Tally}

-- what a call counts: a number by its bits, an index, a length
abbrev pub count_of : Call → ℕ
count_of (val (scalar k b)) = b
count_of (val (text bs)) = length bs
count_of (val unit) = 0
count_of (val none) = 0
count_of (val some) = 1
count_of (val (variant i)) = i
count_of (val (seq n)) = n
count_of (val (map n)) = n
count_of (val (tuple n)) = 0
count_of end = 0

-- the sum of these calls' counts and of what came before, by 64 bits
abbrev pub counted : ℕ → List Call → ℕ
counted s [] = s
counted s (c ∷ cs) = counted ((s + count_of c) % 2 ^ 64) cs

-- A whole reading, after answers of this sum: the sum of all, or the refusal that ended it.
abbrev pub Counts : ℕ → Replay → Result Tally Refusal → Type 0
Counts s (heard cs bs) r = (t : Tally) × (r ≡ Ok t) × (t.answers ≡ counted s cs)
Counts s (stopped e) r = r ≡ Err e

-- One question after answers of this tally: the sum with its answer, and the reader stands for the reading after it; or the refusal.
abbrev pub AskedOnce : {C : Type 0} → List ℕ → Tally → Reader C → Result Tally Refusal → Reply → Type 0
AskedOnce input old after r (refuse e) = r ≡ Err e
AskedOnce input old after r (reply c place R) = (t : Tally) × (r ≡ Ok t) × (t.answers ≡ (old.answers + count_of (hearing input c place)) % 2 ^ 64) × StandsFor after R
