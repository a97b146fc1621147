use Rattle.std.proofs.Common.{◌≡◌, Err, ◌∙◌, rules, arith}
use Rattle.std.proofs.lemmas.Slice.{take-put_mid_below}
use Rattle.de.proofs.Lengths.{kept_both, lengths_denied, room, lengths_past, lengths_read}
use Rattle.de.proofs.columns.Source.read_lengths.Goals as goal

-- the second column is refused
pub returns-in_err-second-clause-answer : goal.returns-in_err-second-clause-answer
returns-in_err-second-clause-answer g c =
    let told : c.from_residual-in_err-second.result ≡ Err c.in_err-second.field-0.0 = search rules in
    rw told (lengths_denied (g.C.Column.meaning c.args.self.now.kind.now) c.args.column _ _ _ _ _ _ _ c.read_numbers.auto.slots c.in_ok-first.ensures.answer c.count_long-long.ensures _ c.in_err-second.ensures.answer)

-- the slots before the columns are kept by both
pub returns-in_err-second-clause-before : goal.returns-in_err-second-clause-before
returns-in_err-second-clause-before g c = kept_both _ _ _ _ _ c.in_ok-first.ensures.answer.taken c.read_numbers.ensures.before c.read_numbers-2.ensures.before

-- the long lengths are in the part
pub join-sum-requires : goal.join-sum-requires
join-sum-requires g c =
    room (g.C.Column.meaning c.args.self.now.kind.now) c.args.column _ _ _ _ _ _ _ c.read_numbers.auto.slots c.in_ok-first.ensures.answer c.count_long-long.ensures _ _ c.read_numbers-2.auto.slots c.in_ok-second.ensures.answer c.read_numbers-2.ensures.before

-- the sum is too large
pub returns-then-sum-ge-LIMIT-clause-answer : goal.returns-then-sum-ge-LIMIT-clause-answer
returns-then-sum-ge-LIMIT-clause-answer g c =
    lengths_past (g.C.Column.meaning c.args.self.now.kind.now) c.args.column _ _ _ _ _ _ _ c.read_numbers.auto.slots c.in_ok-first.ensures.answer c.count_long-long.ensures _ _ c.read_numbers-2.auto.slots c.in_ok-second.ensures.answer c.read_numbers-2.ensures.before
    c.join-sum.new.slots c.join-sum.result c.join-sum.auto.slots c.join-sum.ensures.merged c.join-sum.ensures.sum c.if-sum-ge-LIMIT.true

-- .. and is not
pub returns-clause-answer : goal.returns-clause-answer
returns-clause-answer g c =
    lengths_read (g.C.Column.meaning c.args.self.now.kind.now) c.args.column _ _ _ _ _ _ _ c.read_numbers.auto.slots c.in_ok-first.ensures.answer c.count_long-long.ensures _ _ c.read_numbers-2.auto.slots c.in_ok-second.ensures.answer c.read_numbers-2.ensures.before
    c.join-sum.new.slots c.join-sum.result c.join-sum.auto.slots c.join-sum.ensures.merged c.join-sum.ensures.sum c.if-sum-ge-LIMIT.false

-- the slots before are kept
pub returns-then-sum-ge-LIMIT-clause-before : goal.returns-then-sum-ge-LIMIT-clause-before
returns-then-sum-ge-LIMIT-clause-before g c =
    take-put_mid_below c.args.spot.taken _ c.read_numbers-2.new.slots _ c.args.spot.taken (omega arith) (omega arith)
    ∙ kept_both _ _ _ _ _ c.in_ok-first.ensures.answer.taken c.read_numbers.ensures.before c.read_numbers-2.ensures.before

pub returns-clause-before : goal.returns-clause-before
returns-clause-before g c =
    take-put_mid_below c.args.spot.taken _ c.read_numbers-2.new.slots _ c.args.spot.taken (omega arith) (omega arith)
    ∙ kept_both _ _ _ _ _ c.in_ok-first.ensures.answer.taken c.read_numbers.ensures.before c.read_numbers-2.ensures.before
