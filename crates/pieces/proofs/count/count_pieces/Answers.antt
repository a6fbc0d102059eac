-- `pieces::count::count_pieces` meets its contract: there is one piece more than separators, which are no more than the bytes. Assumes nothing.
use Rattle.pieces.proofs.CountLaws.{counted_most, laws}
use Rattle.std.proofs.Common.{arith}
use Rattle.std.proofs.Common.{rules}
use Rattle.pieces.proofs.count.count_pieces.Goals as goal

pub returns-then-is_empty : goal.returns-then-is_empty
returns-then-is_empty c = search (rules, laws)

pub overflow_add-result : goal.overflow_add-result
overflow_add-result c = omega (arith, counted_most _ _ c.count_byte.ensures, c.well_formed)

pub returns : goal.returns
returns c = search (rules, laws)
