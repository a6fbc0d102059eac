-- `join::put::put_column` meets its contract: the tab is stored over the first byte behind the column. Assumes nothing.
use Rattle.join.proofs.PutLaws.{part_laws}
use Rattle.std.proofs.Common.{rules}
use Rattle.join.proofs.put.put_column.Goals as goal

pub returns-clause-puts : goal.returns-clause-puts
returns-clause-puts c = search (rules, part_laws)
