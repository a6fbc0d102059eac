-- The invariant says that the bytes counted and those to come are those of the whole; each part adds its own. Assumes nothing.
use Rattle.std.proofs.Common.{rules}
use Rattle.pieces.proofs.CountLaws.{laws}
use Rattle.pieces.proofs.count.count_byte.Goals as goal

pub returns : goal.returns
returns c = search (rules, laws)
