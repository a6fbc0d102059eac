-- `Entries::fill` meets its contract: the entries still to write, joined and laid from the place reached, leave what all leave. Assumes nothing.
use Rattle.entries.proofs.JoinedLaws.{Laying}
use Rattle.entries.proofs.list.Entries.fill.Given as goal

abbrev pub invariant-loop-i : goal.invariant-loop-i
invariant-loop-i l = Laying l.separator l.self.text.now l.self.ends.now l.initial.out l.out l.i l.at
