-- The genotypes of the alleles passed are written, each with what stands behind. Assumes nothing.
use Rattle.std.proofs.Common.{rules}
use Rattle.numbering.proofs.ListLaws.{laws}
use Rattle.numbering.proofs.list.put_first.Goals as goal

pub loop-a-init : goal.loop-a-init
loop-a-init c = search (rules, laws)

pub put_one-next-requires : goal.put_one-next-requires
put_one-next-requires c = search (rules, laws)

pub loop-a-preserved : goal.loop-a-preserved
loop-a-preserved c = search (rules, laws)
