-- What the contract says of an answer, from what it says of the table.
use Rattle.std.proofs.Common.{◌≡◌, ℕ, ◌<◌, ◌≤◌, true, false, cond, List, length, take, drop, is_ok, Ok, Err, Decides, Result, sym, subst}
use Rattle.std.specs.List.{AllByRecursion}
use Rattle.std.proofs.lemmas.List.{nil_from_length}
use Rattle.std.proofs.lemmas.Bool.{both_ways}
use Rattle.std.proofs.lemmas.Bool.Decides.{same_from_decides, Decides-like}
use Rattle.utf8.specs.declared.Fault.{Fault}
use Rattle.utf8.specs.declared.Fault.TheVariants.{IllFormed}
use Rattle.utf8.specs.Table.{table, WellFormed, empty}
use Rattle.utf8.specs.Scalars.{Encodes}
use Rattle.utf8.specs.Passes.{passes}
use Rattle.utf8.proofs.Rows.{Alike, decides-passes}
use Rattle.utf8.proofs.Encoding.{to-encodes, from-encodes}
use Rattle.utf8.proofs.Guards.{guard, none-taken}

-- the contract, of an answer r about the text
abbrev pub Said : List ℕ → Result (Unit {0}) Fault → Type 0
Said text r = record {
  table : Decides (is_ok r) (WellFormed text);
  encoding : Decides (is_ok r) (Encodes text);
  computed : is_ok r ≡ passes text;
  answer : r ≡ cond (passes text) (Ok tt) (Err IllFormed);
}

-- there is but one value and one fault
exact : (text : List ℕ) (r : Result (Unit {0}) Fault) → is_ok r ≡ passes text → r ≡ cond (passes text) (Ok tt) (Err IllFormed)
exact text (Ok tt) e = rw (sym e)
exact text (Err IllFormed) e = rw (sym e)

-- all of it follows from the answer about the table
said : (text : List ℕ) (r : Result (Unit {0}) Fault) → Decides (is_ok r) (WellFormed text) → Said text r
said text r d =
    let e = same_from_decides (is_ok r) (passes text) d (decides-passes text) in
    record { table = d; encoding = Decides-like (is_ok r) to-encodes (from-encodes text) d; computed = e; answer = exact text r e }

-- at the end of the text
pub accepted : {s text : List ℕ} {r : Result (Unit {0}) Fault} → Alike s text → length s ≡ 0 → is_ok r ≡ true → Said text r
accepted {s} {text} {r} a none e = said text r (λ _. a.0 (subst WellFormed (sym (nil_from_length s none)) empty), λ _. e)

-- where the first k guards fail, and what is left is too short for the other rows
pub refused : (k : ℕ) {s text : List ℕ} {r : Result (Unit {0}) Fault} → Alike s text → 1 ≤ length s → AllByRecursion (λ row. guard row s ≡ false) (take k table) → AllByRecursion (λ row. length s < length row) (drop k table) → is_ok r ≡ false → Said text r
refused k {s} {text} {r} a some fails short e =
    said text r (λ t. absurd (both_ways (is_ok r) e t), λ w. absurd (none-taken k s some fails short (a.1 w)))
