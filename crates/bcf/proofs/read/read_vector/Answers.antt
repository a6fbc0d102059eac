-- `bcf::read::read_vector` meets its contract: for each width, that it is the one told. Assumes nothing.
use Rattle.bcf.proofs.ReadLaws.{laws}
use Rattle.std.proofs.Common.{rules}
use Rattle.bcf.proofs.read.read_vector.Goals as goal

pub returns-in-1 : goal.returns-in-1
returns-in-1 c = search (rules, laws)

pub returns-in-2 : goal.returns-in-2
returns-in-2 c = search (rules, laws)

pub returns-in-4 : goal.returns-in-4
returns-in-4 c = search (rules, laws)

pub returns-in_default : goal.returns-in_default
returns-in_default c = search (rules, laws)
