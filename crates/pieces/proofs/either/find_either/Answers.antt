-- The invariant says that the first of the two from i on is the first from `from` on, from the place past the blocks on. Assumes nothing.
use Rattle.std.proofs.Common.{rules}
use Rattle.pieces.proofs.EitherLaws.{laws}
use Rattle.pieces.proofs.either.find_either.Goals as goal

pub returns-then-s-i : goal.returns-then-s-i
returns-then-s-i c = search (rules, laws)

pub loop-i-preserved : goal.loop-i-preserved
loop-i-preserved c = search (rules, laws)

pub returns : goal.returns
returns c = search (rules, laws)
