-- The invariant says that the bytes counted and those to come are those of the whole; each part adds its own. Assumes nothing.
use Prim.Native.Nat.{◌-◌}
use lib.ListN.{length}
use Rattle.pieces.proofs.CountLaws.{Counting}
use Rattle.pieces.proofs.count.count_byte.Given as goal

abbrev pub invariant-loop-i : goal.invariant-loop-i
invariant-loop-i l = Counting l.b l.s 0 (length l.s) l.count l.i

abbrev pub decreases-loop-i : goal.decreases-loop-i
decreases-loop-i l = length l.s - l.i
