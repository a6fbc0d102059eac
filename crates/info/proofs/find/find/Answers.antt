-- The invariant says that what the steps from the place on lead to is what is found; each step moves on. Assumes nothing.
use Rattle.std.proofs.Common.{rules}
use Rattle.info.proofs.FindLaws.{laws}
use Rattle.info.proofs.find.find.Goals as goal

pub loop-entry-init : goal.loop-entry-init
loop-entry-init c = search (rules, laws)

pub returns-in_err-entry : goal.returns-in_err-entry
returns-in_err-entry c = search (rules, laws)

pub overflow_add-end : goal.overflow_add-end
overflow_add-end c = search (rules, laws)

pub slice_bounds-same_bytes-end : goal.slice_bounds-same_bytes-end
slice_bounds-same_bytes-end c = search (rules, laws)

pub returns-then-same_bytes : goal.returns-then-same_bytes
returns-then-same_bytes c = search (rules, laws)

pub loop-entry-smaller : goal.loop-entry-smaller
loop-entry-smaller c = search (rules, laws)

pub loop-entry-preserved : goal.loop-entry-preserved
loop-entry-preserved c = search (rules, laws)
