use Rattle.std.proofs.Common.{refl, ap, ◌∙◌}
use Rattle.std.proofs.lemmas.Result.{err_from_is_err_and}
use Rattle.std.proofs.lemmas.Bool.{true≢false, false≢true}
use Rattle.document.specs.Said.{said}
use Rattle.ser.specs.Moves.{sheets, branch_in}
use Rattle.ser.proofs.Weighing.{entering-accepted, entering-refused, entered-found}
use Rattle.ser.proofs.Roomy.{put-safe, unit-safe}
use Rattle.ser.proofs.store.Tables.enter_brought.Goals as goal

-- a refusal is passed on
pub returns-in_err-judge : goal.returns-in_err-judge
returns-in_err-judge c =
    let T = sheets c.args.self.now in
    let r = c.args.r in
    let b = c.args.brought in
    let found = c.branch-child.ensures ∙ ap (branch_in T r) b.brings.2 in
    let p = err_from_is_err_and c.from_residual.result c.from_residual.ensures.1 in
    rw (p.1, p.2)
    record {
      answer = entering-refused T r c.branch-child.result (said b.call) _ found c.in_err-judge.ensures;
      tables = λ e. absurd (false≢true e);
      same = λ _. refl;
    }

-- the verdict tells of the room
pub put_all-child-requires : goal.put_all-child-requires
put_all-child-requires c =
    let T = sheets c.args.self.now in
    let r = c.args.r in
    let k = c.branch-child.result in
    let b = c.args.brought in
    let s = said b.call in
    let found = c.branch-child.ensures ∙ ap (branch_in T r) b.brings.2 in
    record {
      put = put-safe T r k s c.requires.safe c.requires.within.0 c.requires.within.1 c.in_ok-judge.ensures b.brings.3;
      unit = unit-safe T r k s c.requires.safe c.requires.within.0 c.requires.within.1 found c.in_ok-judge.ensures;
    }

-- an accepted value is entered
pub returns : goal.returns
returns c =
    let T = sheets c.args.self.now in
    let r = c.args.r in
    let k = c.branch-child.result in
    let b = c.args.brought in
    let s = said b.call in
    let found = c.branch-child.ensures ∙ ap (branch_in T r) b.brings.2 in
    record {
      answer = entering-accepted T r k s (sheets c.put_all-child.new.self) c.put_all-child.result c.opened.result found c.in_ok-judge.ensures c.put_all-child.ensures.tables c.put_all-child.ensures.place c.opened.ensures;
      tables = λ _. entered-found T r k s (sheets c.put_all-child.new.self) found c.put_all-child.ensures.tables;
      same = λ e. absurd (true≢false e);
    }
