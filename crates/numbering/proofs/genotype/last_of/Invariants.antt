-- No allele above the one looked at has as few genotypes below it as the number says. Assumes nothing.
use Rattle.numbering.proofs.GenotypeLaws.{Seeking}
use Rattle.numbering.proofs.genotype.last_of.Given as goal

abbrev pub invariant-loop-shape : goal.invariant-loop-shape
invariant-loop-shape l = Seeking l.number l.shape.ploidy l.shape.alleles l.a

abbrev pub decreases-loop-shape : goal.decreases-loop-shape
decreases-loop-shape l = l.a
