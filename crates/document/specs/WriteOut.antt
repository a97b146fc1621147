-- What writing a document out answers: the number of its bytes, or the first refusal.
use Rattle.std.specs.Prelude.{ℕ, Bool, true, false, cond, List, [], ◌∷◌, length, Ok, Err, Result, nat_le}
use Rattle.column.specs.Meaning.{Meaning}
use Rattle.document.specs.declared.refusals.Refusal.{Refusal}
use Rattle.document.specs.declared.refusals.Refusal.TheVariants as refusals
use Rattle.document.specs.Calls.{Call}
use Rattle.document.specs.Places.{Place, start}
use Rattle.document.specs.Trace.{trace, places_after}
use Rattle.document.specs.Bytes.{bytes}
use Rattle.document.specs.Tables.{cells_of}

-- whether no place is open
abbrev pub none_open : List Place → Bool
none_open [] = true
none_open (f ∷ fs) = false

-- with a scratch of so many cells and an output of so many bytes
abbrev pub write_out : Meaning → List Call → ℕ → ℕ → Result ℕ Refusal
write_out col cs scratch size =
    cond (none_open (places_after start cs))
    (cond (nat_le (cells_of (trace start cs)) scratch)
    (cond (nat_le (length (bytes col cs)) size) (Ok (length (bytes col cs))) (Err refusals.Room))
    (Err refusals.Scratch))
    (Err refusals.Early)
