-- `text::utf8::is_second_of_three` meets its contract: one law for each row of three bytes. Assumes nothing.
use Rattle.std.proofs.Common.{rules}
use Rattle.text.proofs.Utf8Laws.{laws}
use Rattle.text.proofs.utf8.is_second_of_three.Goals as goal

pub returns-in_default : goal.returns-in_default
returns-in_default c = search (rules, laws)

pub returns-in-160-to-191 : goal.returns-in-160-to-191
returns-in-160-to-191 c = search (rules, laws)

pub returns-in-128-to-159 : goal.returns-in-128-to-159
returns-in-128-to-159 c = search (rules, laws)

pub returns-in_default-matches : goal.returns-in_default-matches
returns-in_default-matches c = search (rules, laws)

pub returns-in_default-matches-2 : goal.returns-in_default-matches-2
returns-in_default-matches-2 c = search (rules, laws)

pub returns-in_default-matches-3 : goal.returns-in_default-matches-3
returns-in_default-matches-3 c = search (rules, laws)

pub returns-in_default-matches-2-2 : goal.returns-in_default-matches-2-2
returns-in_default-matches-2-2 c = search (rules, laws)
