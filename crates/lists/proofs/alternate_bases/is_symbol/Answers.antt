-- `lists::alternate_bases::is_symbol` meets its contract: an entry that begins with `<` and ends with `>` has two bytes, so its last byte is the last past its first. Assumes nothing.
use Rattle.std.proofs.Common.{rules}
use Rattle.lists.proofs.JudgeLaws.{laws}
use Rattle.lists.proofs.alternate_bases.is_symbol.Goals as goal

pub returns-in-60 : goal.returns-in-60
returns-in-60 c = search (rules, laws)

pub returns-in_default : goal.returns-in_default
returns-in_default c = search (rules, laws)

pub returns-in_default-2 : goal.returns-in_default-2
returns-in_default-2 c = search (rules, laws)

pub returns-in_default-3 : goal.returns-in_default-3
returns-in_default-3 c = search (rules, laws)
