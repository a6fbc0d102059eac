-- `splitter::split::record_of` meets its contract: the numbers are the nine ends between the start and the end. Assumes nothing.
use Rattle.std.proofs.Common.{rules}
use Rattle.splitter.proofs.PlaceLaws.{laws}
use Rattle.splitter.proofs.split.record_of.Goals as goal

pub returns : goal.returns
returns c = search (rules, laws)
