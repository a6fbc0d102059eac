-- `alleles::write::tally_row` meets its contract: one record more, and all of them. Assumes nothing.
use Rattle.spelling.proofs.RowLaws.{tally_first}
use Rattle.alleles.proofs.RowLoops.{tally_more, tally_end}
use Rattle.alleles.proofs.write.tally_row.Goals as goal

pub loop-i-init : goal.loop-i-init
loop-i-init c = tally_first c.new-tally.ensures

pub loop-i-preserved : goal.loop-i-preserved
loop-i-preserved c = tally_more _ c.loop-i.invariant c.loop-i-test.true c.add.ensures

pub returns : goal.returns
returns c = tally_end c.loop-i-test.false c.loop-i.invariant
