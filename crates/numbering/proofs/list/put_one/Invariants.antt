-- The alleles still to copy, stored from there on, give what all of them give stored from the start. Assumes nothing.
use Rattle.numbering.proofs.ListLaws.{Copying}
use Rattle.numbering.proofs.list.put_one.Given as goal

abbrev pub invariant-loop-i : goal.invariant-loop-i
invariant-loop-i l = Copying l.current l.initial.row l.row l.at l.i
