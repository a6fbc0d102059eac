-- `line::read::far_end` meets its contract: the byte that was found tells which it is. Assumes nothing.
use Rattle.line.proofs.ReadLaws.{laws}
use Rattle.std.proofs.Common.{rules}
use Rattle.line.proofs.read.far_end.Goals as goal

pub returns-then-i-s : goal.returns-then-i-s
returns-then-i-s c = search (rules, laws)

pub returns-then-s-i-eq9 : goal.returns-then-s-i-eq9
returns-then-s-i-eq9 c = search (rules, laws)

pub returns-else-s-i-eq9 : goal.returns-else-s-i-eq9
returns-else-s-i-eq9 c = search (rules, laws)
