-- `record::ending::Ending::size` meets its contract: one law for each ending. Assumes nothing.
use Rattle.record.proofs.EndingLaws.{laws}
use Rattle.std.proofs.Common.{rules}
use Rattle.record.proofs.ending.Ending.size.Goals as goal

pub returns-in-Nothing : goal.returns-in-Nothing
returns-in-Nothing c = search (rules, laws)

pub returns-in-Feed : goal.returns-in-Feed
returns-in-Feed c = search (rules, laws)

pub returns-in-ReturnFeed : goal.returns-in-ReturnFeed
returns-in-ReturnFeed c = search (rules, laws)
