-- `bcf::width::Width::holding` meets its contract: by the comparisons. Assumes nothing.
use Rattle.std.proofs.Common.{rules}
use Rattle.bcf.proofs.WidthLaws.{laws}
use Rattle.bcf.proofs.width.Width.holding.Goals as goal

pub returns-then-number-le62 : goal.returns-then-number-le62
returns-then-number-le62 c = search (rules, laws)

pub returns-then-number-le16382 : goal.returns-then-number-le16382
returns-then-number-le16382 c = search (rules, laws)

pub returns-else-number-le16382 : goal.returns-else-number-le16382
returns-else-number-le16382 c = search (rules, laws)
