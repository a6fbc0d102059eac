-- What is lent from the place's start to its end is the part there. Assumes nothing.
use Rattle.std.proofs.Common.{rules}
use Rattle.info.proofs.ValueLaws.{part_laws}
use Rattle.info.proofs.find.value.Goals as goal

pub returns : goal.returns
returns c = search (rules, part_laws)
