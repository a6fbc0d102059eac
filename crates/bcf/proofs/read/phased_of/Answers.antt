-- `bcf::read::phased_of` meets its contract: by the low bit. Assumes nothing.
use Rattle.std.proofs.Common.{rules}
use Rattle.bcf.proofs.ReadLaws.{laws}
use Rattle.bcf.proofs.read.phased_of.Goals as goal

pub returns : goal.returns
returns c = search (rules, laws)
