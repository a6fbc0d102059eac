-- `spelling::tally::body_len` meets its contract: `.` is one byte, and no number has more than 20 digits. Assumes nothing.
use Rattle.std.proofs.Common.{rules}
use Rattle.spelling.proofs.TallyLaws.{laws}
use Rattle.spelling.proofs.tally.body_len.Goals as goal

pub returns-then-a-clause-value : goal.returns-then-a-clause-value
returns-then-a-clause-value c = search (rules, laws)

pub returns-else-a-clause-value : goal.returns-else-a-clause-value
returns-else-a-clause-value c = search (rules, laws)

pub returns-else-a-clause-upper_bound : goal.returns-else-a-clause-upper_bound
returns-else-a-clause-upper_bound c = search (rules, laws)
