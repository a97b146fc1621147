use Rattle.std.proofs.Common.{rules, of_calls, ◌^◌, ◌<◌, Some, map, refl, ap, arith}
use Rattle.std.proofs.lemmas.Grind.{common_steps}
use Rattle.std.proofs.lemmas.Bool.Decides.{nat_tests}
use Rattle.std.proofs.ByRecursion.{All-weaker}
use Rattle.document.specs.Columns.{short, longs}
use Rattle.ser.specs.Out.{values_of}
use Rattle.ser.proofs.Outputs.{put_then, put-refused, put_as, kept-each, long, kept-long}
use Rattle.ser.proofs.store.Tables.write_lengths.Goals as goal

-- the first column finds no room, so the second does not either
pub returns-in_err-place : goal.returns-in_err-place
returns-in_err-place g c =
    let col = g.C.Column.meaning c.args.kind.now in
    let vs = values_of c.args.self.now.cells.items c.args.chain in
    let first = put_as (ap (col.image 8) (kept-each short vs)) refl (c.in_err-place.ensures (λ n. Some (short n)) (λ v r l h. grind (arith, common_steps, nat_tests))) in
    put-refused c.args.place (col.image 8 (map short vs)) (col.image 64 (longs vs)) c.args.output.now c.write_column.new.output _ c.from_residual.result first c.from_residual.ensures.1

-- the second column comes after the first
pub returns : goal.returns
returns g c =
    let col = g.C.Column.meaning c.args.kind.now in
    let vs = values_of c.args.self.now.cells.items c.args.chain in
    let first = put_as (ap (col.image 8) (kept-each short vs)) refl (c.in_ok-place.ensures (λ n. Some (short n)) (λ v r l h. grind (arith, common_steps, nat_tests))) in
    let second = put_as (ap (col.image 64) (kept-long vs)) refl (c.write_column-2.ensures long (λ v r l h. grind (arith, common_steps, nat_tests))) in
    put_then c.args.place (col.image 8 (map short vs)) (col.image 64 (longs vs)) c.args.output.now c.write_column.new.output c.write_column-2.new.output c.in_ok-place.place c.write_column-2.result first second

-- a short length fits a byte
pub write_column-requires : goal.write_column-requires
write_column-requires g c = record {
  callable = search (rules, of_calls);
  width = refl;
  fits = All-weaker (λ v. v < 2 ^ 64) _ (λ v l n h. grind (arith, common_steps, nat_tests)) (values_of c.args.self.now.cells.items c.args.chain) c.requires.fits;
  room = c.requires.room;
}

-- a long one fits as all do
pub write_column-requires-2 : goal.write_column-requires-2
write_column-requires-2 g c = record {
  callable = search (rules, of_calls);
  width = refl;
  fits = All-weaker (λ v. v < 2 ^ 64) _ (λ v l n h. grind (arith, common_steps, nat_tests)) (values_of c.args.self.now.cells.items c.args.chain) c.requires.fits;
  room = search rules;
}
