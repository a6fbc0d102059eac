-- `bcf::write::put_codes` meets its contract: the codes still to write lie over what stands. Assumes nothing.
use Rattle.spelling.specs.Row.{list_of}
use Rattle.bcf.proofs.WriteLaws.{Laying}
use Rattle.bcf.proofs.write.put_codes.Given as goal

abbrev pub invariant-loop-k : goal.invariant-loop-k
invariant-loop-k l = Laying l.width (list_of l.row) l.initial.out l.out l.k
