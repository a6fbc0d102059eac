-- The digits still to be written, laid over what stands from the place on, keep what is left in the end. Assumes nothing.
use Rattle.decimal.proofs.PrintLaws.{Putting}
use Rattle.decimal.proofs.print.put_digits.Given as goal

abbrev pub invariant-loop-i : goal.invariant-loop-i
invariant-loop-i l = Putting l.n l.power l.rest l.i l.initial.out l.out
