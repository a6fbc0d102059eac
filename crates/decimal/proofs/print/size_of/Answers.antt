-- The digits counted, and those of what is left, keep their sum; the power times what is left never passes the number. Assumes nothing.
use Rattle.std.proofs.Common.{rules}
use Rattle.decimal.proofs.PrintLaws.{laws}
use Rattle.decimal.proofs.print.size_of.Goals as goal

pub loop-m-preserved : goal.loop-m-preserved
loop-m-preserved c = search (rules, laws)

pub returns : goal.returns
returns c = search (rules, laws)
