-- `join::simple::last_end` meets its contract: behind the last column the next would start at the last end. Assumes nothing.
use Rattle.std.proofs.Common.{rules}
use Rattle.join.proofs.JoinLaws.{laws}
use Rattle.join.proofs.simple.last_end.Goals as goal

pub returns : goal.returns
returns c = search (rules, laws)
