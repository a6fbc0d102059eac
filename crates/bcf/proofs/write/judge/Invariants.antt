-- `bcf::write::judge` meets its contract: what was seen and the alleles still to come tell what all of them do. Assumes nothing.
use Rattle.bcf.proofs.WriteLaws.{JudgingRow}
use Rattle.bcf.proofs.write.judge.Given as goal

abbrev pub invariant-loop-k : goal.invariant-loop-k
invariant-loop-k l = JudgingRow l.numbers l.missing l.most l.k
