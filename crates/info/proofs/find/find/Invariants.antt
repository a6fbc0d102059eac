-- The invariant says that what the steps from the place on lead to is what is found; each step moves on. Assumes nothing.
use Prim.Native.Nat.{◌-◌}
use lib.ListN.{length}
use Rattle.info.proofs.FindLaws.{Searching}
use Rattle.info.proofs.find.find.Given as goal

abbrev pub invariant-loop-entry : goal.invariant-loop-entry
invariant-loop-entry l = Searching l.column l.key l.at

abbrev pub decreases-loop-entry : goal.decreases-loop-entry
decreases-loop-entry l = length l.column - l.at
