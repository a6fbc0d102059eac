-- Each answer of the line reader is its row; at a place of the window it is never 6. Assumes nothing.
use Rattle.listing.proofs.RowLaws.{laws}
use Rattle.std.proofs.Common.{rules}
use Rattle.listing.proofs.turn.read_whole.Goals as goal

pub row_of-requires : goal.row_of-requires
row_of-requires c = search (rules, laws)

pub returns-in-Ok : goal.returns-in-Ok
returns-in-Ok c = search (rules, laws)

pub returns-in-Err-End : goal.returns-in-Err-End
returns-in-Err-End c = search (rules, laws)

pub returns-in-Err-Empty : goal.returns-in-Err-Empty
returns-in-Err-Empty c = search (rules, laws)

pub returns-in-Err-Fed : goal.returns-in-Err-Fed
returns-in-Err-Fed c = search (rules, laws)

pub returns-in-Err-Cut : goal.returns-in-Err-Cut
returns-in-Err-Cut c = search (rules, laws)

pub returns-in-Err-NotUtf8 : goal.returns-in-Err-NotUtf8
returns-in-Err-NotUtf8 c = search (rules, laws)

pub returns-in-Err-Beyond : goal.returns-in-Err-Beyond
returns-in-Err-Beyond c = search (rules, laws)
