-- `genotype::pair::worth` meets its contract: a byte other than `.` is a digit. Assumes nothing.
use Rattle.genotype.proofs.PairLaws.{laws}
use Rattle.std.proofs.Common.{rules}
use Rattle.genotype.proofs.pair.worth.Goals as goal

pub returns-then-b-eq46 : goal.returns-then-b-eq46
returns-then-b-eq46 c = search (rules, laws)

pub overflow_sub-b : goal.overflow_sub-b
overflow_sub-b c = search (rules, laws)

pub returns-else-b-eq46 : goal.returns-else-b-eq46
returns-else-b-eq46 c = search (rules, laws)
