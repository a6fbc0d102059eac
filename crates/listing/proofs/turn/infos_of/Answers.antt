-- What is counted is the text of INFO, as it reads. Assumes nothing.
use Rattle.std.proofs.Common.{rules}
use Rattle.listing.proofs.RowLaws.{laws}
use Rattle.listing.proofs.turn.infos_of.Goals as goal

pub overflow_add-range : goal.overflow_add-range
overflow_add-range c = search (rules, laws)

pub slice_bounds-count-end : goal.slice_bounds-count-end
slice_bounds-count-end c = search (rules, laws)

pub returns-in-Ok-Some : goal.returns-in-Ok-Some
returns-in-Ok-Some c = search (rules, laws)

pub returns-in-Ok-None : goal.returns-in-Ok-None
returns-in-Ok-None c = search (rules, laws)

pub returns-in-Ok-None-2 : goal.returns-in-Ok-None-2
returns-in-Ok-None-2 c = search (rules, laws)
