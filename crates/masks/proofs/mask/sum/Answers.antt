-- Each of the eight sums is at most 255, so that the number fits. Assumes nothing.
use Rattle.masks.specs.Inner.{sum_of}
use Rattle.masks.proofs.WeightLaws.{laws}
use Rattle.std.proofs.Common.{rules}
use Rattle.masks.proofs.mask.sum.Goals as goal

pub returns : goal.returns
unfolding sum_of
returns c = search (rules, laws)
