-- `genotype::above::least_alts` meets its contract: a column that is neither empty nor `.` has one allele at least. Assumes nothing.
use Rattle.std.proofs.Common.{rules}
use Rattle.genotype.proofs.AboveLaws.{laws}
use Rattle.genotype.proofs.above.least_alts.Goals as goal

pub returns : goal.returns
returns c = search (rules, laws)
