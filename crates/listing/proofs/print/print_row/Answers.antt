-- A row is read or refused. Assumes nothing.
use Rattle.listing.proofs.PrintLaws.{laws}
use Rattle.std.proofs.Common.{rules}
use Rattle.listing.proofs.print.print_row.Goals as goal

pub returns-in-Ok : goal.returns-in-Ok
returns-in-Ok c = search (rules, laws)

pub returns-in-Err : goal.returns-in-Err
returns-in-Err c = search (rules, laws)
