-- `genotype::read::judge_checked` meets its contract: the text is judged whole, then held to ALT and room. Assumes nothing.
use Rattle.std.proofs.Common.{rules}
use Rattle.genotype.proofs.AboveLaws.{laws}
use Rattle.genotype.proofs.read.judge_checked.Goals as goal

pub returns-in_err-whole : goal.returns-in_err-whole
returns-in_err-whole c = search (rules, laws)
