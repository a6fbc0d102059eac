-- `allele::step::step_at` meets its contract: the first byte says which of the definition's cases the part up to the next mark is. Assumes nothing.
use Rattle.std.proofs.Common.{rules}
use Rattle.allele.proofs.StepLaws.{laws}
use Rattle.allele.proofs.step.step_at.Goals as goal

pub returns-then-at-text : goal.returns-then-at-text
returns-then-at-text c = search (rules, laws)

pub returns-then-is_empty : goal.returns-then-is_empty
returns-then-is_empty c = search (rules, laws)

pub returns-then-at-text-2 : goal.returns-then-at-text-2
returns-then-at-text-2 c = search (rules, laws)

pub returns-in-124 : goal.returns-in-124
returns-in-124 c = search (rules, laws)

pub returns-in-47 : goal.returns-in-47
returns-in-47 c = search (rules, laws)

pub returns-in_default : goal.returns-in_default
returns-in_default c = search (rules, laws)
