-- `line::read::record_of` meets its contract: the record that is made is the one with these numbers. Assumes nothing.
use Rattle.line.proofs.PlaceLaws.{laws}
use Rattle.std.proofs.Common.{rules}
use Rattle.line.proofs.read.record_of.Goals as goal

pub returns : goal.returns
returns c = search (rules, laws)
