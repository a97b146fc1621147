use Rattle.std.proofs.Common.{[], refl, rules}
use Rattle.ser.proofs.Begun.{begun, root-put}
use Rattle.ser.proofs.writer.Writer.new.Goals as goal

-- a writer keeps that there are calls for which it stands
pub invariant_of-result : goal.invariant_of-result
invariant_of-result c = record { stands = ∣ ([], begun _ refl refl refl refl (root-put c.args.nodes.items _ c.rooted-nodes.ensures.items (search rules)) c.start.ensures.depth c.start.ensures.table c.start.ensures.states) ∣₁ }

-- a new one stands for none
pub returns-clause-stands : goal.returns-clause-stands
returns-clause-stands c = begun _ refl refl refl refl (root-put c.args.nodes.items _ c.rooted-nodes.ensures.items (search rules)) c.start.ensures.depth c.start.ensures.table c.start.ensures.states
