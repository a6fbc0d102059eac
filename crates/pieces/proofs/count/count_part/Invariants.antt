-- The invariant says that the bytes counted and those from i on are those from `from` on; a turn adds at most 1. Assumes nothing.
use Rattle.pieces.proofs.CountLaws.{Counting}
use Rattle.pieces.proofs.count.count_part.Given as goal

abbrev pub invariant-loop-i : goal.invariant-loop-i
invariant-loop-i l = Counting l.b l.s l.from l.end l.n l.i
