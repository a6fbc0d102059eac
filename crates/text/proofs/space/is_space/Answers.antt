-- `text::space::is_space` meets its contract: each way through the match lies in a span, or between two. Assumes nothing.
use Rattle.std.proofs.Common.{rules}
use Rattle.text.proofs.SpaceLaws.{laws}
use Rattle.text.proofs.space.is_space.Goals as goal

pub returns-in_default : goal.returns-in_default
returns-in_default c = search (rules, laws)

pub returns-in_default-2 : goal.returns-in_default-2
returns-in_default-2 c = search (rules, laws)

pub returns-in_default-3 : goal.returns-in_default-3
returns-in_default-3 c = search (rules, laws)

pub returns-in_default-4 : goal.returns-in_default-4
returns-in_default-4 c = search (rules, laws)

pub returns-in-9-to-13 : goal.returns-in-9-to-13
returns-in-9-to-13 c = search (rules, laws)

pub returns-in-9-to-13-2 : goal.returns-in-9-to-13-2
returns-in-9-to-13-2 c = search (rules, laws)

pub returns-in-9-to-13-3 : goal.returns-in-9-to-13-3
returns-in-9-to-13-3 c = search (rules, laws)

pub returns-in-9-to-13-4 : goal.returns-in-9-to-13-4
returns-in-9-to-13-4 c = search (rules, laws)
