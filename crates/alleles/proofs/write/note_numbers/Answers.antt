-- `alleles::write::note_numbers` meets its contract: the numbers of the records passed have 64 bits. Assumes nothing.
use Rattle.alleles.proofs.RowLoops.{small_first, small_more, small_all}
use Rattle.alleles.proofs.write.note_numbers.Goals as goal

pub loop-allele-init : goal.loop-allele-init
loop-allele-init c = small_first

pub loop-allele-preserved : goal.loop-allele-preserved
loop-allele-preserved c = small_more _ c.loop-allele.invariant c.loop-allele-test.true c.note_number.ensures

pub returns : goal.returns
returns c = small_all c.loop-allele.invariant c.loop-allele-test.false
