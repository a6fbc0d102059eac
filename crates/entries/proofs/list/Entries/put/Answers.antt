-- `Entries::put` meets its contract: entries that fit are written, and no other answer writes. Assumes nothing.
use Rattle.std.proofs.Common.{rules}
use Rattle.entries.proofs.JoinedLaws.{laws}
use Rattle.entries.proofs.list.Entries.put.Goals as goal

pub returns-then-not-fits : goal.returns-then-not-fits
returns-then-not-fits c = search (rules, laws)

pub fill-requires : goal.fill-requires
fill-requires c = search (rules, laws)

pub returns : goal.returns
returns c = search (rules, laws)
