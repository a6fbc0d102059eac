-- `bcf::read::missing_of` meets its contract: by whether the code is below 2. Assumes nothing.
use Rattle.std.proofs.Common.{rules}
use Rattle.bcf.proofs.ReadLaws.{laws}
use Rattle.bcf.proofs.read.missing_of.Goals as goal

pub returns : goal.returns
returns c = search (rules, laws)
