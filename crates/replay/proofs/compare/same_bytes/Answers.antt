use Rattle.std.proofs.Common.{[], subst}
use Rattle.document.specs.Verdict.{Accepted}
use Rattle.ser.specs.Standing.{WrittenOut}
use Rattle.replay.specs.Given.{calls_of, kept, sizes_for}
use Rattle.replay.proofs.Trips.{told_apart}
use Rattle.replay.proofs.compare.same_bytes.Goals as goal

-- the bytes tell the lists apart
pub returns-clause-told_apart : goal.returns-clause-told_apart
returns-clause-told_apart g c =
    let col = g.C.Column.meaning c.args.kind.now in
    let sizes = sizes_for c.args.tables in
    let one = c.write_steps-first in
    let other = c.write_steps-second in
    let ds = calls_of c.args.other.now in
    let accepted = subst (λ s. Accepted s (kept s [] ds)) one.ensures.tables other.ensures.accepted in
    let written = subst (λ s. WrittenOut col (kept s [] ds) one.new.scratch other.new.scratch c.args.second_output.now other.new.output other.result.answer) one.ensures.tables other.ensures.written in
    told_apart col (g.met.C.Column.lawful c.args.kind.now) sizes (kept sizes [] (calls_of c.args.one.now)) (kept sizes [] ds) one.ensures.accepted accepted c.args.scratch.now other.new.scratch c.args.output.now one.new.output c.args.second_output.now other.new.output one.result.answer other.result.answer c.alike-same.result
    (one.new.scratch, one.ensures.written, written) c.alike-same.ensures
