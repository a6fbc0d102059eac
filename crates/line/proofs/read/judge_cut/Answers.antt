-- `line::read::judge_cut` meets its contract: the line is all that is left, and no CR of it is stripped, so its verdict is the last column's. Assumes nothing.
use Rattle.line.proofs.ReadLaws.{laws}
use Rattle.std.proofs.Common.{rules}
use Rattle.line.proofs.read.judge_cut.Goals as goal

pub returns-then-is_required : goal.returns-then-is_required
returns-then-is_required c = search (rules, laws)

pub returns-then-start-s : goal.returns-then-start-s
returns-then-start-s c = search (rules, laws)

pub returns : goal.returns
returns c = search (rules, laws)
