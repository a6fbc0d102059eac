-- `spelling::write::put_row` meets its contract: the alleles still to write, laid from the place reached, leave what the whole list leaves. Assumes nothing.
use Rattle.spelling.specs.Row.{list_of}
use Rattle.spelling.proofs.LayLaws.{Laying}
use Rattle.spelling.proofs.write.put_row.Given as goal

abbrev pub invariant-loop-k : goal.invariant-loop-k
invariant-loop-k l = Laying (list_of l.row) l.plan l.initial.out l.out l.at l.k
