-- `bcf::read::fill` meets its contract: the alleles still to store lie over what stands. Assumes nothing.
use Rattle.bcf.proofs.ReadLaws.{Filling}
use Rattle.bcf.proofs.read.fill.Given as goal

abbrev pub invariant-loop-k : goal.invariant-loop-k
invariant-loop-k l = Filling l.width l.bytes l.initial.numbers l.initial.missing l.initial.phased l.numbers l.missing l.phased l.count l.k
