-- `spelling::tally::Plan::size` meets its contract: case by case of the plan. Assumes nothing.
use Rattle.std.proofs.Common.{rules}
use Rattle.spelling.proofs.TallyLaws.{laws}
use Rattle.spelling.proofs.tally.Plan.size.Goals as goal

pub returns-in-Bare : goal.returns-in-Bare
returns-in-Bare c = search (rules, laws)

pub returns-in-Marked : goal.returns-in-Marked
returns-in-Marked c = search (rules, laws)
