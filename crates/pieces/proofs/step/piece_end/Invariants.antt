-- The invariant says that the first separator from i on is the first from `from` on; past 32 bytes that is the far search's. Assumes nothing.
use Rattle.pieces.specs.Inner.{Seeking}
use Rattle.pieces.proofs.step.piece_end.Given as goal

abbrev pub invariant-loop-i : goal.invariant-loop-i
invariant-loop-i l = Seeking l.separator l.separator l.s l.from l.i
