-- The pieces are put one behind the other, where there is room for all. Assumes nothing.
use Rattle.listing.proofs.PrintLaws.{total_lacks, total_line}
use Rattle.std.proofs.Common.{rules}
use Rattle.listing.proofs.print.Totals.print.Goals as goal

pub returns-then-size-saturating_sub : goal.returns-then-size-saturating_sub
returns-then-size-saturating_sub c = search (rules, total_lacks)

pub returns : goal.returns
returns c = search (rules, total_line)
