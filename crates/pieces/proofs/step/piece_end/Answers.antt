-- The invariant says that the first separator from i on is the first from `from` on; past 32 bytes that is the far search's. Assumes nothing.
use Rattle.std.proofs.Common.{rules}
use Rattle.pieces.proofs.EitherLaws.{seek_first, near_within, laws}
use Rattle.pieces.proofs.step.piece_end.Goals as goal

pub bounds-s-i : goal.bounds-s-i
bounds-s-i c = search (rules, laws)

pub returns-then-s-i : goal.returns-then-s-i
returns-then-s-i c = search (rules, seek_first, near_within)

pub loop-i-preserved : goal.loop-i-preserved
loop-i-preserved c = search (rules, laws)

pub returns : goal.returns
returns c = search (rules, laws)
