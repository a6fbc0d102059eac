-- `bcf::width::Width::whole_in` meets its contract: by the table of sizes. Assumes nothing.
use Rattle.bcf.proofs.WidthLaws.{laws}
use Rattle.std.proofs.Common.{rules}
use Rattle.bcf.proofs.width.Width.whole_in.Goals as goal

pub returns-in-W8 : goal.returns-in-W8
returns-in-W8 c = search (rules, laws)

pub returns-in-W16 : goal.returns-in-W16
returns-in-W16 c = search (rules, laws)

pub returns-in-W32 : goal.returns-in-W32
returns-in-W32 c = search (rules, laws)
