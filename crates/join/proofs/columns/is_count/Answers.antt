-- `join::columns::is_count` meets its contract: a line may end with column 8, and from column 10 on. Assumes nothing.
use Rattle.std.proofs.Common.{rules}
use Rattle.join.proofs.JoinLaws.{laws}
use Rattle.join.proofs.columns.is_count.Goals as goal

pub returns-then-n-eq8 : goal.returns-then-n-eq8
returns-then-n-eq8 c = search (rules, laws)

pub returns-else-n-eq8 : goal.returns-else-n-eq8
returns-else-n-eq8 c = search (rules, laws)
