-- As in a step over pieces, the first tab or the end of the text says whether another sample follows. Assumes nothing.
use Rattle.std.proofs.Common.{arith}
use Rattle.std.proofs.Common.{rules}
use Rattle.pieces.proofs.EitherLaws.{either_within}
use Rattle.pieces.proofs.StepLaws.{laws}
use Rattle.samples.specs.Samples.{sample_step}
use Rattle.samples.proofs.columns.sample_at.Goals as goal

pub returns-then-at-samples : goal.returns-then-at-samples
unfolding sample_step
returns-then-at-samples c = search (rules, laws)

pub returns-then-is_empty : goal.returns-then-is_empty
unfolding sample_step
returns-then-is_empty c = search (rules, laws)

pub overflow_add-result : goal.overflow_add-result
overflow_add-result c = omega (arith, either_within _ _ _ _ (omega arith) c.find_byte-end.ensures, c.well_formed)

pub returns-then-end-samples : goal.returns-then-end-samples
unfolding sample_step
returns-then-end-samples c = search (rules, laws)

pub returns-else-end-samples : goal.returns-else-end-samples
unfolding sample_step
returns-else-end-samples c = search (rules, laws)
