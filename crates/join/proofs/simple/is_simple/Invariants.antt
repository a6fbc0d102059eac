-- `join::simple::is_simple` meets its contract: where the bytes passed have no mark, they are simple. Assumes nothing.
use Rattle.join.proofs.SimpleLaws.{Gathering}
use Rattle.join.proofs.simple.is_simple.Given as goal

abbrev pub invariant-loop-b : goal.invariant-loop-b
invariant-loop-b l = Gathering l.s l.marks l.b-index
