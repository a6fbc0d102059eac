-- `genotype::pair::pair_most` meets its contract: neither number is above the greater. Assumes nothing.
use Rattle.genotype.proofs.PairLaws.{laws}
use Rattle.std.proofs.Common.{rules}
use Rattle.genotype.proofs.pair.pair_most.Goals as goal

pub returns : goal.returns
returns c = search (rules, laws)
