-- `join::columns::judge` meets its contract: columns that are fine leave the room alone to ask for; else they are judged one by one. Assumes nothing.
use Rattle.std.proofs.Common.{rules}
use Rattle.join.proofs.JoinLaws.{laws}
use Rattle.join.proofs.columns.judge.Goals as goal

pub are_fine-requires : goal.are_fine-requires
are_fine-requires c = search (rules, laws)

pub last_end-requires : goal.last_end-requires
last_end-requires c = search (rules, laws)

pub overflow_sub-ends : goal.overflow_sub-ends
overflow_sub-ends c = search (rules, laws)

pub returns-then-are_fine : goal.returns-then-are_fine
returns-then-are_fine c = search (rules, laws)
