use Rattle.std.proofs.Common.{◌≡◌, ℕ, length, Ok, Result, sym, ap, ◌∙◌, subst}
use Rattle.std.proofs.lemmas.Result.{IfOk-weaker}
use Rattle.column.specs.declared.fault.Fault.{Fault}
use Rattle.column.specs.Parsed.{got, told, values_of}
use Rattle.column.specs.Interface.{Written, reading}
use Rattle.column.proofs.ThereAndBack.{read_again}
use Rattle.column.proofs.trip.round_trip.Goals as goal

pub returns : goal.returns
returns g c =
    let kind = g.C.Column.meaning c.args.kind.now in
    let w = c.args.width in
    let vs = c.args.values.now in
    let old = c.args.output.now in
    let out = c.write.new.output in
    let wrote = c.in_ok-write.ensures in
    let again = read_again kind (g.met.C.Column.lawful c.args.kind.now) 0 w vs old out c.args.place c.in_ok-write.field-0 wrote.answer wrote.bytes in
    let found : reading kind w (length c.write.new.values) out c.args.place ≡ got vs c.in_ok-write.field-0 =
    ap (λ (n : ℕ). reading kind w n out c.args.place) c.write.auto.values ∙ again in
    let result : c.read.result ≡ Ok c.in_ok-write.field-0 = c.read.ensures.answer ∙ ap (told 0) found in
    record {
      answer = result ∙ wrote.answer;
      bytes = subst (λ (r : Result ℕ Fault). Written r c.args.place (kind.image w vs) old out) (sym result) wrote.bytes;
      values = IfOk-weaker c.read.result _ _ (λ _ h. h ∙ ap values_of found) c.read.ensures.values;
    }
