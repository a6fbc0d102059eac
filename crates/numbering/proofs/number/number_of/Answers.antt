-- What passes the test is a genotype, and the sum is its number. Assumes nothing.
use Rattle.numbering.proofs.NumberLaws.{laws}
use Rattle.std.proofs.Common.{rules}
use Rattle.numbering.proofs.number.number_of.Goals as goal

pub returns-then-not-is_genotype : goal.returns-then-not-is_genotype
returns-then-not-is_genotype c = search (rules, laws)

pub number_to-requires-clause-genotype : goal.number_to-requires-clause-genotype
number_to-requires-clause-genotype c = search (rules, laws)

pub returns : goal.returns
returns c = search (rules, laws)

pub number_to-requires-clause-genotype_len_bound : goal.number_to-requires-clause-genotype_len_bound
number_to-requires-clause-genotype_len_bound c = search (rules, laws)
