-- The last allele is written, and the rest is the genotype of the number that is left, of one ploidy less. Assumes nothing.
use Rattle.std.proofs.Common.{rules}
use Rattle.numbering.proofs.GenotypeLaws.{laws}
use Rattle.numbering.proofs.genotype.+put_genotype.Goals as goal

pub returns-then-shape-eq0 : goal.returns-then-shape-eq0
returns-then-shape-eq0 t c = search (rules, laws)

pub put_genotype-requires : goal.put_genotype-requires
put_genotype-requires t c =
    (search rules, (search (rules, laws), search (rules, laws)))

pub returns : goal.returns
returns t c = search (rules, laws)
