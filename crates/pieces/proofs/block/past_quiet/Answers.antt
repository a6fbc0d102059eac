-- The invariant says that the first of the two from i on is the first from `at` on; a quiet block has neither. Assumes nothing.
use Rattle.std.proofs.Common.{rules}
use Rattle.pieces.proofs.BlockLaws.{laws}
use Rattle.pieces.proofs.block.past_quiet.Goals as goal

pub loop-i-preserved : goal.loop-i-preserved
loop-i-preserved c = search (rules, laws)
