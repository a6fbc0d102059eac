-- The invariant says that the ends to come rise from the last one on, where all rise from 0 on; each way out is a law of that. Assumes nothing.
use Rattle.entries.proofs.EntryLaws.{Judging}
use Rattle.entries.proofs.entries.judge_ends.Given as goal

abbrev pub invariant-loop-end : goal.invariant-loop-end
invariant-loop-end l = Judging l.text l.ends l.start l.end-index
