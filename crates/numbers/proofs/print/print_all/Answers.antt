-- `numbers::print::print_all` is safe and ends: no more than 65,536 bytes are gathered, and the measure falls with each line put and with each write. Assumes nothing.
use Rattle.std.proofs.Common.{rules}
use Rattle.numbers.proofs.RowLaws.{gathering}
use Rattle.numbers.proofs.print.print_all.Goals as goal

pub loop-number-init : goal.loop-number-init
loop-number-init g c = search (rules, gathering)

pub overflow_add-held : goal.overflow_add-held
overflow_add-held g c = search (rules, gathering)

pub loop-number-smaller-in-Ok : goal.loop-number-smaller-in-Ok
loop-number-smaller-in-Ok g c = search (rules, gathering)

pub loop-number-preserved-in-Ok : goal.loop-number-preserved-in-Ok
loop-number-preserved-in-Ok g c = search (rules, gathering)

pub slice_bounds-out-end : goal.slice_bounds-out-end
slice_bounds-out-end g c = search (rules, gathering)

pub slice_bounds-write_all-end : goal.slice_bounds-write_all-end
slice_bounds-write_all-end g c = search (rules, gathering)

pub loop-number-smaller : goal.loop-number-smaller
loop-number-smaller g c = search (rules, gathering)

pub loop-number-preserved : goal.loop-number-preserved
loop-number-preserved g c = search (rules, gathering)

pub slice_bounds-out-end-2 : goal.slice_bounds-out-end-2
slice_bounds-out-end-2 g c = search (rules, gathering)

pub slice_bounds-write_all-end-2 : goal.slice_bounds-write_all-end-2
slice_bounds-write_all-end-2 g c = search (rules, gathering)
