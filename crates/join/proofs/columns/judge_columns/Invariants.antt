-- `join::columns::judge_columns` meets its contract: the columns from i on are judged as all are from 0 on; then the line's length is the last end, a tab for each column but one, and the ending. Assumes nothing.
use Rattle.record.specs.Paper.{ending_of}
use Rattle.join.proofs.JoinLaws.{Judging}
use Rattle.join.proofs.columns.judge_columns.Given as goal

abbrev pub invariant-loop-i : goal.invariant-loop-i
invariant-loop-i l = Judging l.text l.ends (ending_of l.ending) l.i
