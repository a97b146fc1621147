use Rattle.std.proofs.Common.{[], Ok, Some, take, vec_len, sym, refl, ap, ◌∙◌, subst}
use Rattle.document.specs.Reader.{begin}
use Rattle.ser.specs.Standing.{WrittenOut}
use Rattle.replay.specs.Given.{calls_of, kept, sizes_for}
use Rattle.replay.specs.Listening.{askings, Listens}
use Rattle.replay.specs.Trips.{called}
use Rattle.replay.proofs.Trips.{kept_called, comes_back}
use Rattle.replay.proofs.trip.round_trip.Goals as goal

-- what was written out comes back
pub returns-in-Ok-clause-comes_back : goal.returns-in-Ok-clause-comes_back
returns-in-Ok-clause-comes_back g c =
    let col = g.C.Column.meaning c.args.kind.now in
    let sizes = sizes_for c.args.writer in
    let wrote = c.write_steps-answer.ensures in
    let new = c.write_steps-answer.new in
    let cs = kept sizes [] (calls_of c.args.steps.now) in
    let input = take c.in-Ok.length new.output in
    let first = begin (vec_len c.args.reader.nodes) (vec_len c.args.reader.slots) input in
    let same = kept_called sizes [] c.args.steps.now ∙ ap (λ ss. called (askings ss)) (sym wrote.steps) in
    let heard = subst (λ k. Listens k input first (askings new.steps) c.listen-heard.result.count c.listen-heard.result.ending) (ap g.C.Column.meaning c.new-reader.ensures.kind) (c.listen-heard.ensures.heard first c.new-reader.ensures.stands) in
    let written = subst (WrittenOut col cs c.args.scratch.now new.scratch c.args.output.now new.output) c.in-Ok.is wrote.written in
    comes_back col (g.met.C.Column.lawful c.args.kind.now) sizes (askings new.steps) cs same wrote.accepted c.args.scratch.now new.scratch c.args.output.now new.output (Ok c.in-Ok.length) (Some c.listen-heard.result) (vec_len c.args.reader.nodes) (vec_len c.args.reader.slots)
    written (c.listen-heard.result, refl, heard)
