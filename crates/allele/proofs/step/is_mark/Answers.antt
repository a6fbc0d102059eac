-- `allele::step::is_mark` meets its contract: the tests are those of the definition. Assumes nothing.
use Rattle.std.proofs.Common.{rules}
use Rattle.allele.specs.Reading.{is_mark}
use Rattle.allele.proofs.step.is_mark.Goals as goal

pub returns : goal.returns
unfolding is_mark
returns c = search rules
