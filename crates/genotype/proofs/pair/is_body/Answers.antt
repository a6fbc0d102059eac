-- `genotype::pair::is_body` meets its contract, by its definition. Assumes nothing.
use Rattle.std.proofs.Common.{rules}
use Rattle.genotype.specs.Inner.{is_body}
use Rattle.genotype.proofs.pair.is_body.Goals as goal

pub returns : goal.returns
unfolding is_body
returns c = search rules
