-- The first equal key of those from `at` on is the first of all. Assumes nothing.
use Prim.Native.Nat.{◌-◌}
use lib.ListN.{length}
use Rattle.samples.proofs.KeyLaws.{Looking}
use Rattle.samples.proofs.keys.key_index.Given as goal

abbrev pub invariant-loop-range : goal.invariant-loop-range
invariant-loop-range l = Looking l.format l.key l.at l.i

abbrev pub decreases-loop-range : goal.decreases-loop-range
decreases-loop-range l = length l.format - l.at
