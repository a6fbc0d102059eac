-- What is left behind the entry tells which text between `;` it is, and each answer is a law. Assumes nothing.
use Rattle.info.proofs.InfoLaws.{laws}
use Rattle.std.proofs.Common.{rules}
use Rattle.info.proofs.step.judged.Goals as goal

pub end-end-requires : goal.end-end-requires
end-end-requires c = search (rules, laws)

pub overflow_sub-left : goal.overflow_sub-left
overflow_sub-left c = search (rules, laws)

pub returns-then-is_dropped : goal.returns-then-is_dropped
returns-then-is_dropped c = search (rules, laws)

pub returns-then-entry-eq0 : goal.returns-then-entry-eq0
returns-then-entry-eq0 c = search (rules, laws)

pub returns-then-left-eq1 : goal.returns-then-left-eq1
returns-then-left-eq1 c = search (rules, laws)

pub returns-else-left-eq1 : goal.returns-else-left-eq1
returns-else-left-eq1 c = search (rules, laws)
