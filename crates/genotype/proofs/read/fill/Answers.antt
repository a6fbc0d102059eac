-- `genotype::read::fill` meets its contract: those kept are copied; a longer list is laid again. Assumes nothing.
use Rattle.std.proofs.Common.{rules}
use Rattle.genotype.proofs.ReadLaws.{filling}
use Rattle.genotype.proofs.read.fill.Goals as goal

pub returns-then-count-gt-FEW-clause-laid : goal.returns-then-count-gt-FEW-clause-laid
returns-then-count-gt-FEW-clause-laid c = search (rules, filling)

pub returns-clause-laid : goal.returns-clause-laid
returns-clause-laid c = search (rules, filling)
