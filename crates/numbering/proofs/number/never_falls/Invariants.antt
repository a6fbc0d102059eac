-- The alleles still to judge, from the last one on, have the verdict of all. Assumes nothing.
use Rattle.numbering.proofs.NumberLaws.{Judging}
use Rattle.numbering.proofs.number.never_falls.Given as goal

abbrev pub invariant-loop-k : goal.invariant-loop-k
invariant-loop-k l = Judging l.alleles l.genotype l.low l.k-index
