-- `pieces::nth::piece_nth` meets its contract: piece `left` of those from `at` on is the piece asked for. Assumes nothing.
use Prim.Native.Nat.{◌-◌}
use lib.ListN.{length}
use Rattle.pieces.proofs.NthLaws.{Counted}
use Rattle.pieces.proofs.nth.piece_nth.Given as goal

abbrev pub invariant-loop-range : goal.invariant-loop-range
invariant-loop-range l = Counted l.separator l.s l.n l.at l.left

abbrev pub decreases-loop-range : goal.decreases-loop-range
decreases-loop-range l = length l.s - l.at
