use Rattle.std.proofs.Common.{◌≡◌, ◌<◌, ◌≤◌, [], map, length, sym, refl, ap, ◌∙◌, arith, rules}
use Rattle.std.proofs.lemmas.List.{length-map}
use Rattle.chain.specs.Chains.{onward, course}
use Rattle.chain.proofs.Courses.{course-end, course-outside, onward-rises, onward-ends, seen}
use Rattle.chain.proofs.walks.WalkIterator.next.Goals as goal
use Rattle.chain.proofs.walks.WalkIterator.next.Goals.{then-at-eq0-via-then-at-eq0, then-at-eq0-via-else-at-eq0+then-at-self, then-next-at, else-next-at}
use Rattle.std.proofs.iter.Next.{firm}

-- at 0 and outside the table no record comes
pub returns-then-at-eq0 : goal.returns-then-at-eq0
returns-then-at-eq0 g c =
    let s = c.args.self.now in
    let ns = map g.R.Linked.next_of s.table.now in
    let none : course ns s.at ≡ [] =
    elim c.then-at-eq0.branch [
      | then-at-eq0-via-then-at-eq0 w ↦ course-end ns s.at w.if-at-eq0.true
      | then-at-eq0-via-else-at-eq0+then-at-self w ↦
          let l : length s.table.now ≤ s.at = omega (arith, w.if-at-self.true) in course-outside ns s.at (simp length-map l)
    ] in
    record { steps = (refl {a = s.table.now}, (none, refl {a = s.at})); goes = firm (tt) (λ h. search rules) }

-- a record comes, and fewer are left
pub returns : goal.returns
returns g c =
    let s = c.args.self.now in
    let next = c.next-next.result in
    let to : c.if-next-at.self ≡ onward s.at next =
    elim c.if-next-at.branch [
      | then-next-at w ↦ w.self-is ∙ sym (onward-rises s.at next w.if-next-at.true)
      | else-next-at w ↦ w.self-is ∙ sym (onward-ends s.at next w.if-next-at.false)
    ] in
    let p : 0 < s.at = omega arith in
    let q : s.at < length s.table.now = omega arith in
    let e = seen g.R.Linked.next_of s.table.now s.at next c.if-next-at.self c.index-self-at.result p q c.next-next.ensures to in
    record { steps = (refl {a = s.table.now}, (e, p, q)); goes = firm ((tt, tt, omega (arith, ap length e))) (λ h. search rules) }
