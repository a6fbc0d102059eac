-- `bcf::entry::put_byte` meets its contract: one byte is set. Assumes nothing.
use Rattle.bcf.proofs.PlaceLaws.{laws}
use Rattle.std.proofs.Common.{rules}
use Rattle.bcf.proofs.entry.put_byte.Goals as goal

pub returns : goal.returns
returns c = search (rules, laws)
