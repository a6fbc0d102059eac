-- `bcf::entry::put_four` meets its contract: the higher two bytes lie behind the lower two. Assumes nothing.
use Rattle.bcf.proofs.PlaceLaws.{laws}
use Rattle.std.proofs.Common.{rules}
use Rattle.bcf.proofs.entry.put_four.Goals as goal

pub returns : goal.returns
returns c = search (rules, laws)
