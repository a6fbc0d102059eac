-- `bcf::width::Width::entry_at` meets its contract: for each width, that its bytes are those of the entry. Assumes nothing.
use Rattle.bcf.proofs.PlaceLaws.{laws}
use Rattle.std.proofs.Common.{rules}
use Rattle.bcf.proofs.width.Width.entry_at.Goals as goal

pub two_from-requires : goal.two_from-requires
two_from-requires c = search (rules, laws)

pub overflow_mul-k-in-W32 : goal.overflow_mul-k-in-W32
overflow_mul-k-in-W32 c = search (rules, laws)

pub four_from-requires : goal.four_from-requires
four_from-requires c = search (rules, laws)

pub returns-in-W8 : goal.returns-in-W8
returns-in-W8 c = search (rules, laws)

pub returns-in-W16 : goal.returns-in-W16
returns-in-W16 c = search (rules, laws)

pub returns-in-W32 : goal.returns-in-W32
returns-in-W32 c = search (rules, laws)
