-- `genotype::read::check_whole` meets its contract: 12 and 11 come from the whole, then 20, then room. Assumes nothing.
use Rattle.std.proofs.Common.{rules}
use Rattle.genotype.proofs.AboveLaws.{laws}
use Rattle.genotype.proofs.read.check_whole.Goals as goal

pub find_beyond-requires-clause-list_meant : goal.find_beyond-requires-clause-list_meant
find_beyond-requires-clause-list_meant c = search (rules, laws)

pub find_beyond-requires-clause-none_above : goal.find_beyond-requires-clause-none_above
find_beyond-requires-clause-none_above c = search (rules, laws)

pub returns-in-Some : goal.returns-in-Some
returns-in-Some c = search (rules, laws)

pub returns-in-None : goal.returns-in-None
returns-in-None c = search (rules, laws)
