-- `text::utf8::size_by` meets its contract: one law for each way out, by what the first byte asks for. Assumes nothing.
use Rattle.std.proofs.Common.{rules}
use Rattle.text.proofs.Utf8Laws.{laws}
use Rattle.text.proofs.utf8.size_by.Goals as goal

pub returns-then-not-is_second_of_four : goal.returns-then-not-is_second_of_four
returns-then-not-is_second_of_four c = search (rules, laws)

pub returns-then-not-is_further : goal.returns-then-not-is_further
returns-then-not-is_further c = search (rules, laws)

pub returns-in-0-to-127 : goal.returns-in-0-to-127
returns-in-0-to-127 c = search (rules, laws)

pub returns-then-is_further : goal.returns-then-is_further
returns-then-is_further c = search (rules, laws)

pub returns-else-is_further : goal.returns-else-is_further
returns-else-is_further c = search (rules, laws)

pub returns-then-is_further-2 : goal.returns-then-is_further-2
returns-then-is_further-2 c = search (rules, laws)

pub returns-else-is_second_of_three : goal.returns-else-is_second_of_three
returns-else-is_second_of_three c = search (rules, laws)

pub returns-then-is_further-3 : goal.returns-then-is_further-3
returns-then-is_further-3 c = search (rules, laws)

pub returns-else-is_further-3 : goal.returns-else-is_further-3
returns-else-is_further-3 c = search (rules, laws)

pub returns-in_default : goal.returns-in_default
returns-in_default c = search (rules, laws)

pub returns-in_default-2 : goal.returns-in_default-2
returns-in_default-2 c = search (rules, laws)
