-- Whether the first piece reaches the end of the text says whether another follows; each way out is then the definition. Assumes nothing.
use Rattle.std.proofs.Common.{arith}
use Rattle.std.proofs.Common.{rules}
use Rattle.pieces.proofs.StepLaws.{laws}
use Rattle.pieces.proofs.EitherLaws.{either_within}
use Rattle.pieces.proofs.step.piece_at.Goals as goal

pub returns-then-at-s : goal.returns-then-at-s
returns-then-at-s c = search (rules, laws)

pub returns-then-is_empty : goal.returns-then-is_empty
returns-then-is_empty c = search (rules, laws)

pub overflow_add-result : goal.overflow_add-result
overflow_add-result c = omega (arith, either_within _ _ _ _ (omega arith) c.piece_end-end.ensures, c.well_formed)

pub returns-then-end-s : goal.returns-then-end-s
returns-then-end-s c = search (rules, laws)

pub returns-else-end-s : goal.returns-else-end-s
returns-else-end-s c = search (rules, laws)
