-- `bcf::read::all_padding` meets its contract: the entries still to see are padding exactly where all are. Assumes nothing.
use Rattle.bcf.proofs.ReadLaws.{Padded}
use Rattle.bcf.proofs.read.all_padding.Given as goal

abbrev pub invariant-loop-i : goal.invariant-loop-i
invariant-loop-i l = Padded l.width l.bytes l.entries l.padding l.from l.i
