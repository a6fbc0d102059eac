-- `record::ending::Ending::by_size` meets its contract: one law for each number. Assumes nothing.
use Rattle.std.proofs.Common.{rules}
use Rattle.record.proofs.EndingLaws.{laws}
use Rattle.record.proofs.ending.Ending.by_size.Goals as goal

pub returns-in-0 : goal.returns-in-0
returns-in-0 c = search (rules, laws)

pub returns-in-1 : goal.returns-in-1
returns-in-1 c = search (rules, laws)

pub returns-in_default : goal.returns-in_default
returns-in_default c = search (rules, laws)
