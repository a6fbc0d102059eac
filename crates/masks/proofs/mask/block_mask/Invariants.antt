-- Each turn keeps one weight or loses it. Assumes nothing.
use Rattle.masks.proofs.WeightLaws.{Weighing}
use Rattle.masks.proofs.mask.block_mask.Given as goal

abbrev pub invariant-loop-l : goal.invariant-loop-l
invariant-loop-l l = Weighing l.a l.b l.s l.at l.t l.l
