-- No allele above the one looked at has as few genotypes below it as the number says. Assumes nothing.
use Rattle.std.proofs.Common.{rules}
use Rattle.numbering.proofs.GenotypeLaws.{laws}
use Rattle.numbering.proofs.genotype.last_of.Goals as goal

pub overflow_sub-a : goal.overflow_sub-a
overflow_sub-a c = search (rules, laws)

pub loop-shape-smaller : goal.loop-shape-smaller
loop-shape-smaller c = search (rules, laws)
