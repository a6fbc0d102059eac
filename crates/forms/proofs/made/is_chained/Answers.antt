-- `forms::made::is_chained` meets its contract: at each turn one field less is left. Assumes nothing.
use Rattle.forms.proofs.ChainLaws.{laws}
use Rattle.std.proofs.Common.{rules}
use Rattle.forms.proofs.made.is_chained.Goals as goal

pub loop-i-init : goal.loop-i-init
loop-i-init c = search (rules, laws)

pub loop-i-preserved : goal.loop-i-preserved
loop-i-preserved c = search (rules, laws)

pub returns-then-not-is_followed : goal.returns-then-not-is_followed
returns-then-not-is_followed c = search (rules, laws)

pub returns : goal.returns
returns c = search (rules, laws)
