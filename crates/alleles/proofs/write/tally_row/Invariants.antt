-- `alleles::write::tally_row` meets its contract: the tally of the records before the place. Assumes nothing.
use Rattle.spelling.proofs.RowLaws.{Tallying}
use Rattle.alleles.proofs.write.tally_row.Given as goal

abbrev pub invariant-loop-i : goal.invariant-loop-i
invariant-loop-i l = Tallying l.row l.room l.tally l.i
