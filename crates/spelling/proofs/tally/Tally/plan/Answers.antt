-- `spelling::tally::Tally::plan` meets its contract: each way through is a case of the definition. Assumes nothing.
use Rattle.std.proofs.Common.{rules}
use Rattle.spelling.proofs.TallyLaws.{laws}
use Rattle.spelling.proofs.tally.Tally.plan.Goals as goal

pub returns-then-count-eq0 : goal.returns-then-count-eq0
returns-then-count-eq0 c = search (rules, laws)

pub returns-in-Some : goal.returns-in-Some
returns-in-Some c = search (rules, laws)

pub returns-then-self : goal.returns-then-self
returns-then-self c = search (rules, laws)

pub returns-then-not-from_44 : goal.returns-then-not-from_44
returns-then-not-from_44 c = search (rules, laws)

pub returns-in-Some-left-2 : goal.returns-in-Some-left-2
returns-in-Some-left-2 c = search (rules, laws)

pub returns-in_default-left : goal.returns-in_default-left
returns-in_default-left c = search (rules, laws)

pub returns-in_default-left-2 : goal.returns-in_default-left-2
returns-in_default-left-2 c = search (rules, laws)

pub returns-in_default-left-2-2 : goal.returns-in_default-left-2-2
returns-in_default-left-2-2 c = search (rules, laws)
