-- The pieces are put one behind the other, where there is room for all. Assumes nothing.
use Rattle.listing.proofs.PrintLaws.{refused_lacks, refused_line}
use Rattle.std.proofs.Common.{rules}
use Rattle.listing.proofs.turn.Refusal.print.Goals as goal

pub returns-then-size-saturating_sub : goal.returns-then-size-saturating_sub
returns-then-size-saturating_sub c = search (rules, refused_lacks)

pub returns : goal.returns
returns c = search (rules, refused_line)
