-- The number of the alleles before the last, and the count of the genotypes whose last allele is lower. Assumes nothing.
use Rattle.std.proofs.Common.{rules}
use Rattle.numbering.proofs.NumberLaws.{laws}
use Rattle.numbering.proofs.number.+number_to.Goals as goal

pub returns-then-ploidy-eq0 : goal.returns-then-ploidy-eq0
returns-then-ploidy-eq0 t c = search (rules, laws)

pub overflow_add-result : goal.overflow_add-result
overflow_add-result t c = search (rules, laws)

pub returns : goal.returns
returns t c = search (rules, laws)
