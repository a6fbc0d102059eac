-- `bcf::write::put_padding` meets its contract: the padding still to write lies over what stands. Assumes nothing.
use Rattle.bcf.proofs.WriteLaws.{Stuffing}
use Rattle.bcf.proofs.write.put_padding.Given as goal

abbrev pub invariant-loop-i : goal.invariant-loop-i
invariant-loop-i l = Stuffing l.width l.initial.out l.out l.padding l.from l.to l.i
