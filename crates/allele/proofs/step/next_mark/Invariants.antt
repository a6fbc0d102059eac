-- `allele::step::next_mark` meets its contract: the first mark from i on is the first from `from` on. Assumes nothing.
use Rattle.allele.proofs.StepLaws.{Seeking}
use Rattle.allele.proofs.step.next_mark.Given as goal

abbrev pub invariant-loop-i : goal.invariant-loop-i
invariant-loop-i l = Seeking l.text l.from l.i
