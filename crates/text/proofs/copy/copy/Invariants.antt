-- `text::copy::copy` meets its contract: the bytes still to copy, stored from i on, give what all of them give stored from 0. Assumes nothing.
use Rattle.text.proofs.CopyLaws.{Copying}
use Rattle.text.proofs.copy.copy.Given as goal

abbrev pub invariant-loop-i : goal.invariant-loop-i
invariant-loop-i l = Copying l.from l.initial.out l.out l.i
