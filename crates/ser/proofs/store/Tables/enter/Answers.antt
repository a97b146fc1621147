use Rattle.std.proofs.Common.{◌≡◌, true, refl, ◌∙◌, arith, rules}
use Rattle.document.specs.Said.{said}
use Rattle.ser.specs.Brings.{is_lone}
use Rattle.ser.specs.Moves.{sheets}
use Rattle.ser.proofs.Weighing.{lone-entering, lone-entered}
use Rattle.ser.proofs.store.Tables.enter.Goals as goal

-- a `tuple 1` takes nothing
pub returns-in-Tuple-eq1 : goal.returns-in-Tuple-eq1
returns-in-Tuple-eq1 c =
    let T = sheets c.args.self.now in
    let r = c.args.r in
    let s = said c.args.call in
    let lone : is_lone s ≡ true = search rules in
    let safe = c.requires.safe in
    record {
      answer = c.enter_lone.ensures ∙ lone-entering T r s lone (safe.rows r c.requires.within.0 c.requires.within.1).sum (omega (arith, safe.filled, c.args.self.now.few_letters));
      tables = λ _. lone-entered T r s lone;
      same = λ _. refl;
    }
