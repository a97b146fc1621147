use Rattle.std.proofs.Common.{◌≡◌, Ok, arith, rules}
use Rattle.de.specs.Columns.{numbered}
use Rattle.de.proofs.Reading.{read_within, numbers_read}
use Rattle.de.proofs.columns.Source.read_numbers.Goals as goal

-- the bytes that were read are the input's
pub overflow_add-place : goal.overflow_add-place
overflow_add-place g c =
    let ok : Ok c.in_ok-size.size ≡ numbered c.args.column c.read.result = search rules in
    omega (
      arith,
      read_within _ (g.met.C.Column.lawful c.args.self.now.kind.now) c.args.column _ c.args.count _ _ c.args.slots.now _ _ _ _
          c.args.self.now.bytes c.requires (omega (arith, c.min.ensures)) (omega arith) ok c.read.ensures.answer c.read.ensures.values c.read.auto.values,
    )

-- they are read as the definition reads them
pub returns-clause-answer : goal.returns-clause-answer
returns-clause-answer g c =
    let ok : Ok c.in_ok-size.size ≡ numbered c.args.column c.read.result = search rules in
    numbers_read _ (g.met.C.Column.lawful c.args.self.now.kind.now) c.args.column _ c.args.count _ _ c.args.slots.now _ _ _ _
    c.args.self.now.bytes c.requires (omega (arith, c.min.ensures)) (omega arith) ok c.read.ensures.answer c.read.ensures.values c.read.auto.values
