-- The ploidy falls at each call of `numbering::list::put_all` to itself. The blocks of the alleles passed are written. Assumes nothing.
use Rattle.numbering.proofs.ListLaws.{Going}
use Rattle.numbering.proofs.list.+put_all.Given as goal

abbrev pub decreases-put_all : goal.decreases-put_all
decreases-put_all l = l.ploidy

abbrev pub invariant-loop-a : goal.invariant-loop-a
invariant-loop-a l = Going l.ploidy l.alleles l.initial.current l.initial.row l.at l.a l.current l.row l.next
