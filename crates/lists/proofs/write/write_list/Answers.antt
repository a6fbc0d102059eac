-- `lists::write::write_list` meets its contract: what is written at the start of the rest stands from the place on. Assumes nothing.
use Rattle.lists.proofs.WriteLaws.{laws}
use Rattle.std.proofs.Common.{rules}
use Rattle.lists.proofs.write.write_list.Goals as goal

pub returns-then-at-out : goal.returns-then-at-out
returns-then-at-out c = search (rules, laws)

pub returns : goal.returns
returns c = search (rules, laws)
