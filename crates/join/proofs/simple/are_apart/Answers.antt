-- `join::simple::are_apart` meets its contract: the columns passed are apart, and the next starts at the last end. Assumes nothing.
use Rattle.std.proofs.Common.{rules}
use Rattle.join.proofs.SimpleLaws.{laws}
use Rattle.join.proofs.simple.are_apart.Goals as goal

pub loop-end-init : goal.loop-end-init
loop-end-init c = search (rules, laws)

pub loop-end-preserved : goal.loop-end-preserved
loop-end-preserved c = search (rules, laws)
