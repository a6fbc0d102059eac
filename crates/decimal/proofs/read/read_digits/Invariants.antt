-- The number so far, with the digits from `i` on, keeps the value of the whole, and one law says what each way through a turn makes of that. Assumes nothing.
use Rattle.decimal.proofs.ReadLaws.{Going}
use Rattle.decimal.proofs.read.read_digits.Given as goal

abbrev pub invariant-loop-i : goal.invariant-loop-i
invariant-loop-i l = Going l.s l.acc l.i
