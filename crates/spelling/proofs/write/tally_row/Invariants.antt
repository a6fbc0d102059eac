-- `spelling::write::tally_row` meets its contract: the tally so far, and the alleles still to come, give the tally of all of them; that a
-- number has at most 64 bits is known of each element of the slice. Assumes nothing.
use Rattle.spelling.specs.Row.{list_of}
use Rattle.spelling.proofs.RowLaws.{Tallying}
use Rattle.spelling.proofs.write.tally_row.Given as goal

abbrev pub invariant-loop-k : goal.invariant-loop-k
invariant-loop-k l = Tallying (list_of l.row) l.room l.tally l.k
