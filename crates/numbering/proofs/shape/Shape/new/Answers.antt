-- Within the limits both are as few as they are to be. Assumes nothing.
use Rattle.std.proofs.Common.{rules}
use Rattle.numbering.proofs.LimitLaws.{laws}
use Rattle.numbering.proofs.shape.Shape.new.Goals as goal

pub invariant_of-result : goal.invariant_of-result
invariant_of-result c = record { few = search (rules, laws); most = search (rules, laws) }
