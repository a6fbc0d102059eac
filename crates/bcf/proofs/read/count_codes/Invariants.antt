-- `bcf::read::count_codes` meets its contract: the codes still to count, behind those counted, are all; that each element is a byte is
-- known of the slice. Assumes nothing.
use Rattle.bcf.proofs.ReadLaws.{Counting}
use Rattle.bcf.proofs.read.count_codes.Given as goal

abbrev pub invariant-loop-i : goal.invariant-loop-i
invariant-loop-i l = Counting l.width l.bytes l.entries l.negative l.i
