-- `bcf::width::Width::put_entry` meets its contract: for each width, that its bytes are those of the entry. Assumes nothing.
use Rattle.bcf.proofs.PlaceLaws.{laws}
use Rattle.std.proofs.Common.{rules}
use Rattle.bcf.proofs.width.Width.put_entry.Goals as goal

pub put_two-requires : goal.put_two-requires
put_two-requires c = search (rules, laws)

pub overflow_mul-k-in-W32 : goal.overflow_mul-k-in-W32
overflow_mul-k-in-W32 c = search (rules, laws)

pub put_four-requires : goal.put_four-requires
put_four-requires c = search (rules, laws)

pub returns-in-W8 : goal.returns-in-W8
returns-in-W8 c = search (rules, laws)

pub returns-in-W16 : goal.returns-in-W16
returns-in-W16 c = search (rules, laws)

pub returns-in-W32 : goal.returns-in-W32
returns-in-W32 c = search (rules, laws)
