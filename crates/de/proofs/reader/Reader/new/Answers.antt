use Rattle.std.proofs.Common.{rules}
use Rattle.de.proofs.reader.Reader.new.Goals as goal

-- a new reader stands for a new reading
pub invariant_of-result : goal.invariant_of-result
invariant_of-result g c = record { bytes = search rules; stands = ∣ (_, c.start-desk.ensures.stands c.args.input.now) ∣₁ }
