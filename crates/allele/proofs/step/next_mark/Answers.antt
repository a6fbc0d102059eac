-- `allele::step::next_mark` meets its contract: the first mark from i on is the first from `from` on. Assumes nothing.
use Rattle.std.proofs.Common.{rules}
use Rattle.allele.proofs.StepLaws.{laws}
use Rattle.allele.proofs.step.next_mark.Goals as goal

pub returns-then-is_mark-clause-value : goal.returns-then-is_mark-clause-value
returns-then-is_mark-clause-value c = search (rules, laws)

pub loop-i-preserved : goal.loop-i-preserved
loop-i-preserved c = search (rules, laws)

pub returns-clause-value : goal.returns-clause-value
returns-clause-value c = search (rules, laws)
