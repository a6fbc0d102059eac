-- `join::put::put_columns` meets its contract: the columns still to write, joined and laid from the place reached, leave what all leave. Assumes nothing.
use Rattle.join.proofs.PutLaws.{Putting}
use Rattle.join.proofs.put.put_columns.Given as goal

abbrev pub invariant-loop-i : goal.invariant-loop-i
invariant-loop-i l = Putting l.text l.ends l.initial.out l.out l.start l.at l.i
