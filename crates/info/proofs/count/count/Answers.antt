-- There are as many texts between `;` as semicolons, plus one. Assumes nothing.
use Rattle.std.proofs.Common.{rules}
use Rattle.info.proofs.Counts.{laws}
use Rattle.info.proofs.count.count.Goals as goal

pub returns : goal.returns
returns c = search (rules, laws)
