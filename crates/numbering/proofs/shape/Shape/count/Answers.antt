-- Two products are taken, factor by factor; the one over the other is the binomial. Assumes nothing.
use Rattle.std.proofs.Common.{rules}
use Rattle.numbering.proofs.CountLaws.{laws}
use Rattle.numbering.proofs.shape.Shape.count.Goals as goal

pub loop-i-init : goal.loop-i-init
loop-i-init c = search (rules, laws)

pub overflow_mul-over : goal.overflow_mul-over
overflow_mul-over c = search (rules, laws)

pub overflow_mul-under : goal.overflow_mul-under
overflow_mul-under c = search (rules, laws)

pub loop-i-preserved : goal.loop-i-preserved
loop-i-preserved c = search (rules, laws)

pub nonzero_div-result : goal.nonzero_div-result
nonzero_div-result c = search (rules, laws)

pub returns : goal.returns
returns c = search (rules, laws)
