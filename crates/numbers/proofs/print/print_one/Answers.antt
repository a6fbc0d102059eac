-- `numbers::print::print_one` is safe: no more bytes were written than the output has. Assumes nothing.
use Rattle.std.proofs.Common.{rules}
use Rattle.numbers.proofs.RowLaws.{printed}
use Rattle.numbers.proofs.print.print_one.Goals as goal

pub slice_bounds-out-end : goal.slice_bounds-out-end
slice_bounds-out-end g c = search (rules, printed c.print_decimal.ensures c.in-Ok.is)

pub slice_bounds-write_all-end : goal.slice_bounds-write_all-end
slice_bounds-write_all-end g c = search (rules, printed c.print_decimal.ensures c.in-Ok.is)
