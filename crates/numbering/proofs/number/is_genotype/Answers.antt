-- Both tests, one after the other. Assumes nothing.
use Rattle.numbering.proofs.NumberLaws.{laws}
use Rattle.std.proofs.Common.{rules}
use Rattle.numbering.proofs.number.is_genotype.Goals as goal

pub returns-then-within_limits : goal.returns-then-within_limits
returns-then-within_limits c = search (rules, laws)

pub returns-else-within_limits : goal.returns-else-within_limits
returns-else-within_limits c = search (rules, laws)
