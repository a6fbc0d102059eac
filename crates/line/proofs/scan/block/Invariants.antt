-- `line::scan::block` meets its contract: the lowest bit is the next mark, and the others are left. Assumes nothing.
use Rattle.line.proofs.ScanLaws.{Marking}
use Rattle.line.proofs.scan.block.Given as goal

abbrev pub invariant-loop-m : goal.invariant-loop-m
invariant-loop-m l = Marking l.s l.at l.i l.k l.m l.tabs

abbrev pub decreases-loop-m : goal.decreases-loop-m
decreases-loop-m l = l.m
