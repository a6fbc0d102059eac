-- `cases::infos::scan` is safe and ends: a step that is not 10 moves on within the column, and the measure is how many bytes are left. Assumes nothing.
use Prim.Native.Nat.{◌-◌, ◌≤◌}
use lib.ListN.{length}
use Rattle.cases.proofs.infos.scan.Given as goal

abbrev pub invariant-loop-told : goal.invariant-loop-told
invariant-loop-told l = l.from ≤ length l.column

abbrev pub decreases-loop-told : goal.decreases-loop-told
decreases-loop-told l = length l.column - l.from
