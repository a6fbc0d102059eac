-- What is lent from the place's start to its end is the part there. Assumes nothing.
use Rattle.entries.proofs.PlaceLaws.{laws}
use Rattle.std.proofs.Common.{rules}
use Rattle.entries.proofs.entries.entry_text.Goals as goal

pub returns : goal.returns
returns c = search (rules, laws)
