-- `spelling::tally::from_44` meets its contract: the major number is compared first. Assumes nothing.
use Rattle.std.proofs.Common.{rules}
use Rattle.spelling.proofs.TallyLaws.{laws}
use Rattle.spelling.proofs.tally.from_44.Goals as goal

pub returns-then-major-gt4 : goal.returns-then-major-gt4
returns-then-major-gt4 c = search (rules, laws)

pub returns-then-major-eq4 : goal.returns-then-major-eq4
returns-then-major-eq4 c = search (rules, laws)

pub returns-else-major-eq4 : goal.returns-else-major-eq4
returns-else-major-eq4 c = search (rules, laws)
