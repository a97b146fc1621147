-- What is to be said of a line: where the codec agrees with the reference, and where a difference counts under a name.
use Rattle.std.specs.Prelude.{◌≡◌, ◌<◌, ◌≤◌, ◌⊎◌, ℕ, true, false, Some, Ok, Err, vec_items, vec_len}
use Rattle.document.specs.declared.refusals.Refusal.{Refusal}
use Rattle.document.specs.declared.refusals.Refusal.TheVariants as refusals
use Rattle.vectors.specs.declared.expected.Written.{Written}
use Rattle.vectors.specs.declared.expected.Written.TheVariants as written
use Rattle.vectors.specs.declared.expected.Ending.{Ending}
use Rattle.vectors.specs.declared.expected.Ending.TheVariants as endings
use Rattle.vectors.specs.declared.expected.Read.{Read}
use Rattle.vectors.specs.declared.known.Known.{Known}
use Rattle.vectors.specs.declared.known.Known.TheVariants as known
use Rattle.vectors.specs.declared.reading.Heard.{Heard}
use Rattle.vectors.specs.declared.reading.Next.{Next}
use Rattle.vectors.specs.declared.reading.Next.TheVariants as next
use Rattle.vectors.specs.declared.reading.Grounds.{Grounds as AskedGrounds}
use Rattle.vectors.specs.declared.writing.Beside.TheVariants as besides
use Rattle.vectors.specs.declared.writing.RefusedCall.{RefusedCall}
use Rattle.vectors.specs.declared.writing.Wrote.{Wrote}
use Rattle.vectors.specs.declared.writing.Wrote.TheVariants as wrote

-- ---- writing

-- the same bytes; or the reference's `Err`, which a variant above 255 alone can be
abbrev pub AgreesInWriting : Written → Wrote → Type 0
AgreesInWriting (written.Bytes bytes) (wrote.Bytes came) = vec_items bytes ≡ vec_items came
AgreesInWriting written.Error (wrote.Refused refused) = refused.refusal ≡ refusals.Index
AgreesInWriting _ _ = ⊥

-- the reference wrote the list out, or panicked because a later call was of another kind
abbrev pub PassedEnds : Written → Type 0
PassedEnds (written.Bytes bytes) = Unit {0}
PassedEnds written.TypeChanged = Unit {0}
PassedEnds _ = ⊥

-- the reference wrote the list out, or panicked because a declared number was another
abbrev pub PassedKinds : Written → Type 0
PassedKinds (written.Bytes bytes) = Unit {0}
PassedKinds written.LengthMismatch = Unit {0}
PassedKinds _ = ⊥

-- the reference wrote the list out
abbrev pub WroteOut : Written → Type 0
WroteOut (written.Bytes bytes) = Unit {0}
WroteOut _ = ⊥

-- a table that is full
abbrev pub IsFull : RefusedCall → Type 0
IsFull r = ((r.refusal ≡ refusals.Nodes) × (65536 ≤ r.grounds.records)) ⊎ ((r.refusal ≡ refusals.Cells) × (1048576 ≤ r.grounds.cells)) ⊎ ((r.refusal ≡ refusals.TextTable) × (16777216 < r.grounds.letters))

-- what a refused call has to be, to count under a name
abbrev pub CountsRefused : Known → Written → RefusedCall → Type 0
CountsRefused known.UnitBeside w r = PassedKinds w × (r.refusal ≡ refusals.Kind) × (r.grounds.beside ≡ Some besides.Unit)
CountsRefused known.NoneBeside w r = PassedKinds w × (r.refusal ≡ refusals.Kind) × (r.grounds.beside ≡ Some besides.None)
CountsRefused known.EarlyEnd w r = PassedEnds w × (r.refusal ≡ refusals.Count) × (r.grounds.is_end ≡ true)
CountsRefused known.TooMany w r = (w ≡ written.LengthMismatch) × (r.refusal ≡ refusals.Count) × (r.grounds.is_end ≡ false)
CountsRefused known.OtherKind w r = (w ≡ written.TypeChanged) × (r.refusal ≡ refusals.Kind)
CountsRefused known.Sums w r = WroteOut w × (r.refusal ≡ refusals.Sum) × (2251799813685247 ≤ r.grounds.lengths)
CountsRefused known.Places w r = WroteOut w × (r.refusal ≡ refusals.Depth) × (r.grounds.places ≡ 32)
CountsRefused known.Tables w r = WroteOut w × IsFull r

-- a refused call alone can
abbrev pub CountsInWriting : Known → Written → Wrote → Type 0
CountsInWriting k w (wrote.Refused r) = CountsRefused k w r
CountsInWriting k w _ = ⊥

-- ---- reading

-- a refusal by what the bytes say
abbrev pub IsOfBytes : Refusal → Type 0
IsOfBytes (refusals.Short l c) = Unit {0}
IsOfBytes (refusals.Bad l c) = Unit {0}
IsOfBytes refusals.Sum = Unit {0}
IsOfBytes refusals.Text = Unit {0}
IsOfBytes refusals.Option = Unit {0}
IsOfBytes refusals.NoSize = Unit {0}
IsOfBytes _ = ⊥

-- the refusal of a question that does not fit the answers
abbrev pub IsMisfit : Refusal → Type 0
IsMisfit refusals.Complete = Unit {0}
IsMisfit refusals.Count = Unit {0}
IsMisfit _ = ⊥

-- both ended a reading in the same way
abbrev pub EndsAlike : Ending → Next → Type 0
EndsAlike endings.Whole (next.Finish (Ok u)) = Unit {0}
EndsAlike endings.Left (next.Finish (Err r)) = r ≡ refusals.Left
EndsAlike endings.Unfit (next.Finish (Err r)) = r ≡ refusals.Early
EndsAlike endings.Unfit (next.Refused r g) = IsMisfit r
EndsAlike endings.Error (next.Refused r g) = IsOfBytes r
EndsAlike _ _ = ⊥

-- all answers of the reference came, and then the same end
abbrev pub AgreesInReading : Read → Heard → Type 0
AgreesInReading read heard = (heard.count ≡ vec_len read.values) × EndsAlike read.ending heard.next

-- all answers of the reference came, and then it ended like this
abbrev pub Ended : Read → ℕ → Ending → Type 0
Ended read count ending = (count ≡ vec_len read.values) × (read.ending ≡ ending)

-- what a refused question has to be, to count under a name
abbrev pub CountsAsked : Known → Read → ℕ → Refusal → AskedGrounds → Type 0
CountsAsked known.OtherKind read count r g = (r ≡ refusals.Kind) × Ended read count endings.TypeChanged
CountsAsked known.Places read count r g = (r ≡ refusals.Depth) × (g.places ≡ 32)
CountsAsked known.Tables read count r g = ((r ≡ refusals.Nodes) × (65536 ≤ g.records)) ⊎ ((r ≡ refusals.Cells) × (Ended read count endings.Error ⊎ (1048576 ≤ g.input)))
CountsAsked _ read count r g = ⊥

-- a refused question alone can
abbrev pub CountsAsNext : Known → Read → ℕ → Next → Type 0
CountsAsNext k read count (next.Refused r g) = CountsAsked k read count r g
CountsAsNext k read count _ = ⊥

abbrev pub CountsInReading : Known → Read → Heard → Type 0
CountsInReading k read heard = CountsAsNext k read heard.count heard.next
