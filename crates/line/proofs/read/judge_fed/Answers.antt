-- `line::read::judge_fed` meets its contract: the line is the column before the LF, less one CR, so its verdict is the last column's. Assumes nothing.
use Rattle.line.proofs.ReadLaws.{laws}
use Rattle.std.proofs.Common.{rules}
use Rattle.line.proofs.read.judge_fed.Goals as goal

pub returns-then-is_required : goal.returns-then-is_required
returns-then-is_required c = search (rules, laws)

pub returns-then-end-start : goal.returns-then-end-start
returns-then-end-start c = search (rules, laws)

pub returns : goal.returns
returns c = search (rules, laws)
