-- The digits still to be written, laid over what stands from the place on, keep what is left in the end. Assumes nothing.
use Rattle.std.proofs.Common.{rules}
use Rattle.decimal.proofs.PrintLaws.{laws}
use Rattle.decimal.proofs.print.put_digits.Goals as goal

pub loop-i-init : goal.loop-i-init
loop-i-init c = search (rules, laws)

pub loop-i-preserved : goal.loop-i-preserved
loop-i-preserved c = search (rules, laws)

pub returns : goal.returns
returns c = search (rules, laws)
