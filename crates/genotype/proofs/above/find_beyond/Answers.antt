-- `genotype::above::find_beyond` meets its contract: where ALT has the greatest number there is none, else the text is searched. Assumes nothing.
use Rattle.genotype.proofs.AboveLaws.{laws}
use Rattle.std.proofs.Common.{rules}
use Rattle.genotype.proofs.above.find_beyond.Goals as goal

pub returns-then-has_allele : goal.returns-then-has_allele
returns-then-has_allele c = search (rules, laws)
