-- The ploidy falls at each call of `numbering::genotype::put_genotype` to itself. Assumes nothing.
use Rattle.numbering.proofs.genotype.+put_genotype.Given as goal

abbrev pub decreases-put_genotype : goal.decreases-put_genotype
decreases-put_genotype l = l.shape.ploidy
