-- The invariant says that the first of the two from i on is the first from `from` on, from the place past the blocks on. Assumes nothing.
use Rattle.pieces.specs.Inner.{Seeking}
use Rattle.pieces.proofs.either.find_either.Given as goal

abbrev pub invariant-loop-i : goal.invariant-loop-i
invariant-loop-i l = Seeking l.a l.b l.s l.from l.i
