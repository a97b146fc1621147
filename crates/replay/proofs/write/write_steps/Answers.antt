use Rattle.std.proofs.Common.{[], sym, ap, ◌∙◌, subst}
use Rattle.document.specs.Verdict.{Accepted}
use Rattle.ser.specs.Moves.{sheets}
use Rattle.ser.specs.Standing.{Stands}
use Rattle.ser.specs.Tables.{sizes_of}
use Rattle.replay.specs.Given.{calls_of, kept, marked, desk_of, sizes_for}
use Rattle.replay.proofs.Giving.{new-sizes, back-sizes}
use Rattle.replay.proofs.write.write_steps.Goals as goal

pub returns : goal.returns
returns g c =
    let t = c.args.tables in
    let begun = c.new-writer.ensures in
    let sizes = new-sizes c.new-writer.result t begun.nodes begun.cells begun.text in
    let st = subst (λ s. Stands (desk_of c.give.new.writer) (kept s [] (calls_of c.args.steps.now))) sizes (c.give.ensures.stands [] begun.stands) in
    let after = c.give.ensures.sizes [] begun.stands ∙ sizes in
    let closed = subst (λ d. Stands d (kept (sizes_for t) [] (calls_of c.args.steps.now))) (sym c.close-closed.ensures) st in
    record {
      steps = c.give.ensures.steps [] begun.stands ∙ ap (λ s. marked s [] c.args.steps.now) sizes;
      accepted = subst (λ s. Accepted s (kept (sizes_for t) [] (calls_of c.args.steps.now))) after st.accepted;
      written = c.write_out-answer.ensures (kept (sizes_for t) [] (calls_of c.args.steps.now)) closed;
      tables = back-sizes (sizes_for t) c.close-closed.result.desk c.into_tables.result c.into_tables.ensures.nodes c.into_tables.ensures.cells c.into_tables.ensures.text (ap (λ d. sizes_of (sheets d.tables)) c.close-closed.ensures ∙ after);
    }
