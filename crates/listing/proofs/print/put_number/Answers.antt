-- The digits are written behind the place of the space, where there is room. Assumes nothing.
use Rattle.listing.proofs.PrintLaws.{number_there, number_fits, number_put}
use Rattle.std.proofs.Common.{rules}
use Rattle.listing.proofs.print.put_number.Goals as goal

pub unwrap-len-requires : goal.unwrap-len-requires
unwrap-len-requires c = search (rules, number_there)

pub overflow_add-result : goal.overflow_add-result
overflow_add-result c = search (rules, number_fits)

pub overflow_add-result-2 : goal.overflow_add-result-2
overflow_add-result-2 c = search (rules, number_fits)

pub returns : goal.returns
returns c = search (rules, number_put)
