-- The first equal key of those from `at` on is the first of all. Assumes nothing.
use Rattle.std.proofs.Common.{rules}
use Rattle.samples.proofs.KeyLaws.{laws, look_nothing}
use Rattle.samples.proofs.keys.key_index.Goals as goal

pub loop-range-init : goal.loop-range-init
loop-range-init c = search (rules, laws)

pub returns-in_err-range : goal.returns-in_err-range
returns-in_err-range c = rw c.from_residual.ensures (look_nothing _ _ _ _ c.loop-range.invariant c.in_err-range.ensures)

pub overflow_add-end : goal.overflow_add-end
overflow_add-end c = search (rules, laws)

pub returns-then-same_bytes : goal.returns-then-same_bytes
returns-then-same_bytes c = search (rules, laws)

pub returns-in_err-at : goal.returns-in_err-at
returns-in_err-at c = search (rules, laws)

pub loop-range-smaller : goal.loop-range-smaller
loop-range-smaller c = search (rules, laws)

pub loop-range-preserved : goal.loop-range-preserved
loop-range-preserved c = search (rules, laws)
