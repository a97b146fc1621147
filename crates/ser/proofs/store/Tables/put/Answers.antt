use Rattle.std.proofs.Common.{ap, ◌∙◌, ap₂, arith}
use Rattle.document.specs.Said.{said}
use Rattle.ser.specs.Moves.{sheets, touched, branched, kept, lettered}
use Rattle.ser.proofs.Roomy.{branch-safe, keep-safe, letter-safe}
use Rattle.ser.proofs.store.Tables.put.Goals as goal

-- what each move leaves has room for the next
pub branch_out-child-requires : goal.branch_out-child-requires
branch_out-child-requires c =
    let b = c.args.brought in
    branch-safe (sheets c.args.self.now) c.args.r c.args.child (said b.call) c.requires _ _ (sheets c.touch.new.self) b.brings.0 b.brings.2 c.touch.ensures

pub keep-requires : goal.keep-requires
keep-requires c =
    let b = c.args.brought in
    keep-safe (sheets c.args.self.now) c.args.r c.args.child (said b.call) c.requires _ _ _ (sheets c.touch.new.self) (sheets c.branch_out-child.new.self)
    b.brings.0 b.brings.2 b.brings.1 c.touch.ensures c.branch_out-child.ensures.tables

pub write_text-requires : goal.write_text-requires
write_text-requires c =
    let b = c.args.brought in
    let room = letter-safe (sheets c.args.self.now) c.args.r c.args.child (said b.call) c.requires _ _ _ (sheets c.touch.new.self) (sheets c.branch_out-child.new.self) (sheets c.keep.new.self)
    b.brings.0 b.brings.2 b.brings.1 c.touch.ensures c.branch_out-child.ensures.tables c.keep.ensures in
    omega (arith, c.keep.new.self.text.ok.0)

-- the moves, one after another
pub returns-clause-tables : goal.returns-clause-tables
returns-clause-tables c =
    let T = sheets c.args.self.now in
    let r = c.args.r in
    let b = c.args.brought in
    c.write_text.ensures
    ∙ ap (lettered (said b.call)) (c.keep.ensures ∙ ap₂ (kept r) b.brings.1 (c.branch_out-child.ensures.tables ∙ ap₂ (branched r c.args.child) b.brings.2 (c.touch.ensures ∙ ap (λ m. touched r m T) b.brings.0)))
