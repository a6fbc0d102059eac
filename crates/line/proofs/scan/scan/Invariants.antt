-- `line::scan::scan` meets its contract: one law for each answer of a block. Assumes nothing.
use Prim.Native.Nat.{◌-◌}
use lib.ListN.{length}
use Rattle.line.specs.Scan.{Swept}
use Rattle.line.proofs.scan.scan.Given as goal

abbrev pub invariant-loop-i : goal.invariant-loop-i
invariant-loop-i l = Swept l.s l.at l.i l.k l.fresh l.plain l.tabs

abbrev pub decreases-loop-i : goal.decreases-loop-i
decreases-loop-i l = length l.s - l.i
