use Rattle.std.proofs.Common.{length, refl, ap, ◌∙◌, arith}
use Rattle.ser.specs.Moves.{sheets, node}
use Rattle.ser.proofs.Moved.{named-keeps, length-named}
use Rattle.ser.proofs.store.Tables.begin.Goals as goal

-- the mark leaves the children and the lengths as they were
pub grow-requires : goal.grow-requires
grow-requires c =
    let T = sheets c.args.self.now in
    let r = c.args.r in
    let f = c.requires.family in
    let e = c.name.ensures in
    let used = ap (λ U. U.used) e in
    let size = ap (λ U. length U.nodes) e ∙ length-named r c.args.mark T in
    let last = ap (λ U. (node U r).children.last) e ∙ named-keeps (λ n. n.children.last) (λ k n. refl) (λ k n. refl) r c.args.mark r T in
    record { within = omega arith; nodes = omega (arith, c.family.ensures); tail = omega arith }
