-- `join::simple::are_apart` meets its contract: the columns passed are apart, and the next starts at the last end. Assumes nothing.
use Rattle.join.proofs.SimpleLaws.{Climbing}
use Rattle.join.proofs.simple.are_apart.Given as goal

abbrev pub invariant-loop-end : goal.invariant-loop-end
invariant-loop-end l = Climbing l.ends l.start l.end-index
