-- The digits counted, and those of what is left, keep their sum; the power times what is left never passes the number. Assumes nothing.
use Rattle.decimal.proofs.PrintLaws.{Sizing}
use Rattle.decimal.proofs.print.size_of.Given as goal

abbrev pub invariant-loop-m : goal.invariant-loop-m
invariant-loop-m l = Sizing l.n l.len l.power l.m

abbrev pub decreases-loop-m : goal.decreases-loop-m
decreases-loop-m l = l.m
