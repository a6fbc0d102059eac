-- `bcf::entry::four_from` meets its contract: the higher two bytes stand behind the lower two. Assumes nothing.
use Rattle.bcf.proofs.PlaceLaws.{laws}
use Rattle.std.proofs.Common.{rules}
use Rattle.bcf.proofs.entry.four_from.Goals as goal

pub returns : goal.returns
returns c = search (rules, laws)
