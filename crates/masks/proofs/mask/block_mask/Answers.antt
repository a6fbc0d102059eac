-- Each turn keeps one weight or loses it. Assumes nothing.
use Rattle.std.proofs.Common.{rules}
use Rattle.masks.proofs.WeightLaws.{laws}
use Rattle.masks.proofs.mask.block_mask.Goals as goal

pub loop-l-init : goal.loop-l-init
loop-l-init c = search (rules, laws)

pub sum-requires : goal.sum-requires
sum-requires c = search (rules, laws)

pub returns : goal.returns
returns c = search (rules, laws)
