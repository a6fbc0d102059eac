-- `forms::made::is_ten` meets its contract: the definition at its tests. Assumes nothing.
use Rattle.forms.proofs.MadeLaws.{laws}
use Rattle.std.proofs.Common.{rules}
use Rattle.forms.proofs.made.is_ten.Goals as goal

pub returns-then-is_chained : goal.returns-then-is_chained
returns-then-is_chained c = search (rules, laws)

pub returns-then-is_chained-2 : goal.returns-then-is_chained-2
returns-then-is_chained-2 c = search (rules, laws)

pub returns-else-is_chained-2 : goal.returns-else-is_chained-2
returns-else-is_chained-2 c = search (rules, laws)
