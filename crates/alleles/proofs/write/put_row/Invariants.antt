-- `alleles::write::put_row` meets its contract: the records still to write, laid from the place reached, leave what the whole row leaves. Assumes nothing.
use Rattle.spelling.proofs.LayLaws.{Laying}
use Rattle.alleles.proofs.write.put_row.Given as goal

abbrev pub invariant-loop-i : goal.invariant-loop-i
invariant-loop-i l = Laying l.row l.plan l.initial.out l.out l.at l.i
