-- The invariant says that no flag is set exactly where each byte so far is neither of the two. Assumes nothing.
use Rattle.std.proofs.Common.{rules}
use Rattle.text.proofs.FlagLaws.{laws}
use Rattle.pieces.proofs.BlockLaws.{one_from}
use Rattle.pieces.proofs.block.is_quiet.Goals as goal

pub loop-i-preserved : goal.loop-i-preserved
loop-i-preserved c = search (rules, laws, one_from)
