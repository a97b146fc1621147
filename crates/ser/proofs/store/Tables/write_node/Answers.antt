use Rattle.std.proofs.Common.{rules, Some, refl, sym, ap, ◌∙◌}
use Rattle.document.specs.Columns.{length_bytes, joined}
use Rattle.ser.specs.Out.{values_of, pieces_of, image_by}
use Rattle.ser.proofs.Outputs.{put_then, put_as, kept-all}
use Rattle.ser.proofs.store.Tables.write_node.Goals as goal

-- a text's letters come after its lengths
pub returns-in_ok-end-in-Text : goal.returns-in_ok-end-in-Text
returns-in_ok-end-in-Text g c =
    let col = g.C.Column.meaning c.args.kind.now in
    let vs = values_of c.args.self.now.cells.items c.args.node.cells in
    let ts = pieces_of c.args.self.now.cells.items c.args.self.now.text.items c.args.node.cells in
    put_as (sym (ap (λ m. image_by col m vs ts) c.in-Text.is)) refl
    (put_then c.args.place (length_bytes col vs) (joined ts) c.args.output.now c.write_lengths-in-Text.new.output c.write_texts.new.output c.in_ok-end-in-Text.end c.write_texts.result c.in_ok-end-in-Text.ensures c.write_texts.ensures)

-- a scalar's numbers stand in a column of its width
pub returns-in-Scalar : goal.returns-in-Scalar
returns-in-Scalar g c =
    let col = g.C.Column.meaning c.args.kind.now in
    let vs = values_of c.args.self.now.cells.items c.args.node.cells in
    let ts = pieces_of c.args.self.now.cells.items c.args.self.now.text.items c.args.node.cells in
    put_as (ap (col.image c.width-width.result) (kept-all vs) ∙ ap (λ w. col.image w vs) c.width-width.ensures ∙ sym (ap (λ m. image_by col m vs ts) c.in-Scalar.is)) refl
    (c.write_column.ensures (λ n. Some n) (λ v r l h. search rules))

-- an enum's indices stand in a column of bytes
pub returns-in-Enum : goal.returns-in-Enum
returns-in-Enum g c =
    let col = g.C.Column.meaning c.args.kind.now in
    let vs = values_of c.args.self.now.cells.items c.args.node.cells in
    let ts = pieces_of c.args.self.now.cells.items c.args.self.now.text.items c.args.node.cells in
    put_as (ap (col.image 8) (kept-all vs) ∙ sym (ap (λ m. image_by col m vs ts) c.in-Enum.is)) refl (c.write_column-in-Enum.ensures (λ n. Some n) (λ v r l h. search rules))
