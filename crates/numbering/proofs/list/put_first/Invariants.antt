-- The genotypes of the alleles passed are written, each with what stands behind. Assumes nothing.
use Rattle.numbering.proofs.ListLaws.{Going}
use Rattle.numbering.proofs.list.put_first.Given as goal

abbrev pub invariant-loop-a : goal.invariant-loop-a
invariant-loop-a l = Going 1 l.alleles l.initial.current l.initial.row l.at l.a l.current l.row l.next
