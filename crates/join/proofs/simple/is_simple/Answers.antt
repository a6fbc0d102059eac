-- `join::simple::is_simple` meets its contract: where the bytes passed have no mark, they are simple. Assumes nothing.
use Rattle.std.proofs.Common.{rules}
use Rattle.join.proofs.SimpleLaws.{laws}
use Rattle.join.proofs.simple.is_simple.Goals as goal

pub loop-b-preserved : goal.loop-b-preserved
loop-b-preserved c = search (rules, laws)
