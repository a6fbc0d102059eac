-- `bcf::read::number_of` meets its contract: the number is the definition. Assumes nothing.
use Rattle.std.proofs.Common.{rules}
use Rattle.bcf.proofs.ReadLaws.{laws}
use Rattle.bcf.proofs.read.number_of.Goals as goal

pub returns : goal.returns
returns c = search (rules, laws)
