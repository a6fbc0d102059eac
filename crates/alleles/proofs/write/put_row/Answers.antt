-- `alleles::write::put_row` meets its contract: the records still to write, laid from the place reached, leave what the whole row leaves. Assumes nothing.
use Rattle.spelling.proofs.LayLaws.{lay_first}
use Rattle.alleles.proofs.RowLoops.{lay_more, lay_end}
use Rattle.alleles.proofs.write.put_row.Goals as goal

pub loop-i-init : goal.loop-i-init
loop-i-init c = lay_first c.requires

pub loop-i-preserved : goal.loop-i-preserved
loop-i-preserved c = lay_more _ c.loop-i.invariant c.loop-i-test.true c.put_one-at.ensures

pub returns : goal.returns
returns c = lay_end c.loop-i-test.false c.loop-i.invariant
