-- `genotype::read::judge` meets its contract: the whole text's answer, and then room. Assumes nothing.
use Rattle.std.proofs.Common.{rules}
use Rattle.genotype.proofs.JudgeLaws.{laws}
use Rattle.genotype.proofs.read.judge.Goals as goal

pub returns-in_err-whole : goal.returns-in_err-whole
returns-in_err-whole c = search (rules, laws)

pub returns : goal.returns
returns c = search (rules, laws)
