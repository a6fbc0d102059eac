-- The pieces are put one behind the other, where there is room for all. Assumes nothing.
use Rattle.listing.proofs.PrintLaws.{read_lacks, read_line}
use Rattle.std.proofs.Common.{rules}
use Rattle.listing.proofs.turn.ReadRow.print.Goals as goal

pub returns-then-size-saturating_sub : goal.returns-then-size-saturating_sub
returns-then-size-saturating_sub c = search (rules, read_lacks)

pub returns : goal.returns
returns c = search (rules, read_line)
