-- The alleles still to judge, from the last one on, have the verdict of all. Assumes nothing.
use Rattle.std.proofs.Common.{rules}
use Rattle.numbering.proofs.NumberLaws.{laws}
use Rattle.numbering.proofs.number.never_falls.Goals as goal

pub returns-then-k-low : goal.returns-then-k-low
returns-then-k-low c = search (rules, laws)

pub loop-k-preserved : goal.loop-k-preserved
loop-k-preserved c = search (rules, laws)

pub returns : goal.returns
returns c = search (rules, laws)
