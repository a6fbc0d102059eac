-- `genotype::read::fitted` meets its contract: there is room, or not. Assumes nothing.
use Rattle.std.proofs.Common.{rules}
use Rattle.genotype.proofs.JudgeLaws.{laws}
use Rattle.genotype.proofs.read.fitted.Goals as goal

pub returns-then-n-room : goal.returns-then-n-room
returns-then-n-room c = search (rules, laws)

pub returns : goal.returns
returns c = search (rules, laws)
