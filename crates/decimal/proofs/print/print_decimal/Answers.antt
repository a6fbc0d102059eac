-- Where the digits fit they are put over the output; else it stays. Assumes nothing.
use Rattle.decimal.proofs.PrintLaws.{laws}
use Rattle.std.proofs.Common.{rules}
use Rattle.decimal.proofs.print.print_decimal.Goals as goal

pub returns-then-size-out : goal.returns-then-size-out
returns-then-size-out c = search (rules, laws)

pub returns : goal.returns
returns c = search (rules, laws)
