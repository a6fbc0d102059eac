-- `genotype::above::find_above` meets its contract: the first above the count from index k on is the first of all. Assumes nothing.
use Rattle.std.proofs.Common.{rules}
use Rattle.genotype.proofs.AboveLaws.{laws}
use Rattle.genotype.proofs.above.find_above.Goals as goal

pub loop-allele-init : goal.loop-allele-init
loop-allele-init c = search (rules, laws)

pub returns-then-allele-count : goal.returns-then-allele-count
returns-then-allele-count c = search (rules, laws)

pub loop-allele-smaller : goal.loop-allele-smaller
loop-allele-smaller c = search (rules, laws)

pub loop-allele-preserved : goal.loop-allele-preserved
loop-allele-preserved c = search (rules, laws)

pub returns : goal.returns
returns c = search (rules, laws)
