-- `lists::write::Kind::is_fine` meets its contract: each arm is the definition's clause for its kind. Assumes nothing.
use Rattle.std.proofs.Common.{rules}
use Rattle.lists.specs.Judge.{fine}
use Rattle.lists.proofs.write.Kind.is_fine.Goals as goal

pub returns-in-Filters : goal.returns-in-Filters
unfolding fine
returns-in-Filters c = search rules

pub returns-in-Alts : goal.returns-in-Alts
unfolding fine
returns-in-Alts c = search rules
