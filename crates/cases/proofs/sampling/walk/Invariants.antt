-- `cases::sampling::walk` is safe and ends: a piece that a tab ends is followed by a place further on, and the measure is how many bytes are left. Assumes nothing.
use Prim.Native.Nat.{◌-◌, ◌≤◌}
use lib.ListN.{length}
use Rattle.cases.proofs.sampling.walk.Given as goal

abbrev pub invariant-loop-range : goal.invariant-loop-range
invariant-loop-range l = l.from ≤ length l.samples

abbrev pub decreases-loop-range : goal.decreases-loop-range
decreases-loop-range l = length l.samples - l.from
