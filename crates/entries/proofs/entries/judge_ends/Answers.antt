-- The invariant says that the ends to come rise from the last one on, where all rise from 0 on; each way out is a law of that. Assumes nothing.
use Rattle.std.proofs.Common.{rules}
use Rattle.entries.proofs.EntryLaws.{laws}
use Rattle.entries.proofs.entries.judge_ends.Goals as goal

pub loop-end-init : goal.loop-end-init
loop-end-init c = search (rules, laws)

pub returns-then-end-start : goal.returns-then-end-start
returns-then-end-start c = search (rules, laws)

pub loop-end-preserved : goal.loop-end-preserved
loop-end-preserved c = search (rules, laws)

pub returns : goal.returns
returns c = search (rules, laws)
