-- `bcf::write::judge` meets its contract: what was seen and the alleles still to come tell what all of them do. Assumes nothing.
use Rattle.std.proofs.Common.{arith}
use Rattle.bcf.proofs.WriteLaws.{judge_first, judge_next, judge_stop, judge_end}
use Rattle.bcf.proofs.write.judge.Goals as goal

pub loop-k-init : goal.loop-k-init
loop-k-init c = λ p q. judge_first

pub loop-k-preserved : goal.loop-k-preserved
loop-k-preserved c = judge_next c.loop-k.invariant (omega arith) c.is_sound.ensures c.if-not-is_sound.false c.max-most.ensures

pub returns-then-not-is_sound : goal.returns-then-not-is_sound
returns-then-not-is_sound c = judge_stop c.loop-k.invariant (omega arith) c.is_sound.ensures c.if-not-is_sound.true

pub returns : goal.returns
returns c = judge_end c.loop-k.invariant (omega arith)
