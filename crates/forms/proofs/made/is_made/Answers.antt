-- `forms::made::is_made` meets its contract: the definition at its test. Assumes nothing.
use Rattle.forms.proofs.MadeLaws.{laws}
use Rattle.std.proofs.Common.{rules}
use Rattle.forms.proofs.made.is_made.Goals as goal

pub returns-then-is_within : goal.returns-then-is_within
returns-then-is_within c = search (rules, laws)

pub returns-else-is_within : goal.returns-else-is_within
returns-else-is_within c = search (rules, laws)
