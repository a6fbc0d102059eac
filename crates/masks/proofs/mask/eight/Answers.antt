-- Each of the eight is at most its weight, so that their sum fits. Assumes nothing.
use Rattle.masks.proofs.WeightLaws.{laws}
use Rattle.std.proofs.Common.{rules}
use Rattle.masks.proofs.mask.eight.Goals as goal

pub returns-clause-value : goal.returns-clause-value
returns-clause-value c = search (rules, laws)
