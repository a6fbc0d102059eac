-- No number has more than 20 digits. Assumes nothing.
use Rattle.listing.proofs.PrintLaws.{number_sized, sized_fits}
use Rattle.std.proofs.Common.{rules}
use Rattle.listing.proofs.print.number_size.Goals as goal

pub overflow_add-result : goal.overflow_add-result
overflow_add-result c = search (rules, sized_fits)

pub returns : goal.returns
returns c = search (rules, number_sized)
