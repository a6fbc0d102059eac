-- Beyond the column, at its end, or an entry that is judged. Assumes nothing.
use Rattle.info.proofs.InfoLaws.{laws}
use Rattle.std.proofs.Common.{rules}
use Rattle.info.proofs.step.step_at.Goals as goal

pub returns-then-at-column-2 : goal.returns-then-at-column-2
returns-then-at-column-2 c = search (rules, laws)

pub returns-else-at-column-2 : goal.returns-else-at-column-2
returns-else-at-column-2 c = search (rules, laws)
