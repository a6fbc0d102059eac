-- The invariant says that the bytes counted and those from i on are those from `from` on; a turn adds at most 1. Assumes nothing.
use Rattle.std.proofs.Common.{rules}
use Rattle.pieces.proofs.BlockLaws.{one_from}
use Rattle.pieces.proofs.CountLaws.{laws}
use Rattle.pieces.proofs.count.count_part.Goals as goal

pub loop-i-preserved : goal.loop-i-preserved
loop-i-preserved c = search (rules, laws, one_from)
