-- The samples of a line that was read lie in the window, and are its columns from 9 on. Assumes nothing.
use Rattle.listing.proofs.RowLaws.{samples_fit, laws}
use Rattle.std.proofs.Common.{arith}
use Rattle.std.proofs.Common.{rules}
use Rattle.listing.proofs.turn.samples_of.Goals as goal

pub overflow_add-range : goal.overflow_add-range
overflow_add-range c = omega (arith, samples_fit c.requires c.place-range.ensures)

pub slice_bounds-count-end : goal.slice_bounds-count-end
slice_bounds-count-end c = search (rules, laws)

pub returns : goal.returns
returns c = search (rules, laws)
