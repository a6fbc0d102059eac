-- The values are the next place and the allele, as the paper has them. Assumes nothing.
use Rattle.std.proofs.Common.{rules}
use Rattle.exports.proofs.KnownLaws.{allele_told}
use Rattle.exports.proofs.genotypes.tell_allele.Goals as goal

pub returns : goal.returns
returns c = search (rules, allele_told)
