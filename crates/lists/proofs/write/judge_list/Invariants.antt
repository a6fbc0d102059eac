-- `lists::write::judge_list` meets its contract: the entries still to judge are judged as all are. Assumes nothing.
use Rattle.lists.proofs.WriteLaws.{Judging}
use Rattle.lists.proofs.write.judge_list.Given as goal

abbrev pub invariant-loop-i : goal.invariant-loop-i
invariant-loop-i l = Judging l.kind l.text l.ends l.i
