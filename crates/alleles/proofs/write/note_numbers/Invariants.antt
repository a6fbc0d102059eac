-- `alleles::write::note_numbers` meets its contract: the numbers of the records passed have 64 bits. Assumes nothing.
use Rattle.alleles.proofs.RowLoops.{Small}
use Rattle.alleles.proofs.write.note_numbers.Given as goal

abbrev pub invariant-loop-allele : goal.invariant-loop-allele
invariant-loop-allele l = Small l.row l.allele-index
