-- `line::read::fields_of` meets its contract: each tab is one column further, so the places follow the definition's column by column. Assumes nothing.
use Rattle.line.proofs.PlaceLaws.{laws}
use Rattle.std.proofs.Common.{rules}
use Rattle.line.proofs.read.fields_of.Goals as goal

pub returns-then-tabs-eq0 : goal.returns-then-tabs-eq0
returns-then-tabs-eq0 c = search (rules, laws)

pub returns : goal.returns
returns c = search (rules, laws)
