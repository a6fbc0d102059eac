-- `alleles::read::fill` meets its contract: each turn lays the allele that the text goes on with. Assumes nothing.
use Rattle.std.proofs.Common.{rules}
use Rattle.alleles.proofs.FillLaws.{laws}
use Rattle.alleles.proofs.read.fill.Goals as goal

pub loop-place-init : goal.loop-place-init
loop-place-init c = search (rules, laws)

pub returns-in_default : goal.returns-in_default
returns-in_default c = search (rules, laws)

pub loop-place-preserved : goal.loop-place-preserved
loop-place-preserved c = search (rules, laws)

pub returns : goal.returns
returns c = search (rules, laws)
