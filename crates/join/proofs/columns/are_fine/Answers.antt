-- `join::columns::are_fine` meets its contract: columns that are apart, with simple bytes and no CR to lose, are not refused. Assumes nothing.
use Rattle.std.proofs.Common.{rules}
use Rattle.join.proofs.SimpleLaws.{laws}
use Rattle.join.proofs.columns.are_fine.Goals as goal

pub returns-then-are_apart : goal.returns-then-are_apart
returns-then-are_apart c = search (rules, laws)
