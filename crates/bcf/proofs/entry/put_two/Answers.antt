-- `bcf::entry::put_two` meets its contract: the higher byte lies behind the lower one. Assumes nothing.
use Rattle.bcf.proofs.PlaceLaws.{laws}
use Rattle.std.proofs.Common.{rules}
use Rattle.bcf.proofs.entry.put_two.Goals as goal

pub returns : goal.returns
returns c = search (rules, laws)
