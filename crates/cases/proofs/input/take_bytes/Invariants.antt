-- `cases::input::take_bytes` is safe and ends: the measure is how many bytes are left, fewer after each line. Assumes nothing.
use Prim.Native.Nat.{◌-◌}
use lib.ListN.{length}
use Rattle.cases.proofs.input.take_bytes.Given as goal

abbrev pub decreases-loop-range : goal.decreases-loop-range
decreases-loop-range l = length l.bytes - l.from
