-- Each way out is the definition at its tests, with the start that `start_of` ensures. Assumes nothing.
use Rattle.std.proofs.Common.{rules}
use Rattle.entries.proofs.EntryLaws.{laws}
use Rattle.entries.proofs.entries.entry_at.Goals as goal

pub returns-then-i-ends : goal.returns-then-i-ends
returns-then-i-ends c = search (rules, laws)

pub returns-then-end-start : goal.returns-then-end-start
returns-then-end-start c = search (rules, laws)

pub returns : goal.returns
returns c = search (rules, laws)
