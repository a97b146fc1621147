-- Each arm is a row of the table, by its place there from 0.
use Rattle.std.proofs.Common.{lit<, rules}
use Rattle.utf8.proofs.Guards.{taken}
use Rattle.utf8.proofs.Beginnings.{past-alike}
use Rattle.utf8.proofs.Verdicts.{accepted, refused}
use Rattle.utf8.proofs.well_formed.Goals as goal

pub loop-s-preserved-in-len1-up : goal.loop-s-preserved-in-len1-up
loop-s-preserved-in-len1-up c =
    let rest = taken 0 c.loop-s.invariant (lit< tt) (search rules) (search rules) in
    let past = past-alike _ _ c.past_ascii-s.ensures in
    (λ w. rest.0 (past.0 w), λ w. past.1 (rest.1 w))

pub loop-s-preserved-in-len2-up : goal.loop-s-preserved-in-len2-up
loop-s-preserved-in-len2-up c = taken 1 c.loop-s.invariant (lit< tt) (search rules) (search rules)

pub loop-s-preserved-in-len3-up : goal.loop-s-preserved-in-len3-up
loop-s-preserved-in-len3-up c = taken 2 c.loop-s.invariant (lit< tt) (search rules) (search rules)

pub loop-s-preserved-in-len3-up-2 : goal.loop-s-preserved-in-len3-up-2
loop-s-preserved-in-len3-up-2 c = taken 3 c.loop-s.invariant (lit< tt) (search rules) (search rules)

pub loop-s-preserved-in-len3-up-3 : goal.loop-s-preserved-in-len3-up-3
loop-s-preserved-in-len3-up-3 c = taken 4 c.loop-s.invariant (lit< tt) (search rules) (search rules)

pub loop-s-preserved-in-len3-up-4 : goal.loop-s-preserved-in-len3-up-4
loop-s-preserved-in-len3-up-4 c = taken 5 c.loop-s.invariant (lit< tt) (search rules) (search rules)

pub loop-s-preserved-in-len4-up : goal.loop-s-preserved-in-len4-up
loop-s-preserved-in-len4-up c = taken 6 c.loop-s.invariant (lit< tt) (search rules) (search rules)

pub loop-s-preserved-in-len4-up-2 : goal.loop-s-preserved-in-len4-up-2
loop-s-preserved-in-len4-up-2 c = taken 7 c.loop-s.invariant (lit< tt) (search rules) (search rules)

pub loop-s-preserved : goal.loop-s-preserved
loop-s-preserved c = taken 8 c.loop-s.invariant (lit< tt) (search rules) (search rules)

pub returns-in_default : goal.returns-in_default
returns-in_default c = refused 1 c.loop-s.invariant (search rules) (search rules) (search rules) (search rules)

pub returns-in_default-2 : goal.returns-in_default-2
returns-in_default-2 c = refused 2 c.loop-s.invariant (search rules) (search rules) (search rules) (search rules)

pub returns-in_default-6 : goal.returns-in_default-6
returns-in_default-6 c = refused 6 c.loop-s.invariant (search rules) (search rules) (search rules) (search rules)

pub returns-in_default-7 : goal.returns-in_default-7
returns-in_default-7 c = refused 9 c.loop-s.invariant (search rules) (search rules) (search rules) (search rules)

pub returns-in-empty : goal.returns-in-empty
returns-in-empty c = accepted c.loop-s.invariant (search rules) (search rules)
