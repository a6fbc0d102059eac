-- Each way through it is a case of the definition, by what the turn does. Assumes nothing.
use Rattle.listing.proofs.DriveLaws.{take_beyond, take_end, take_full, take_more, take_on, take_row}
use Rattle.std.proofs.Common.{rules}
use Rattle.listing.proofs.drive.State.take_turn.Goals as goal

pub returns-in-Beyond : goal.returns-in-Beyond
returns-in-Beyond c = search (rules, take_beyond)

pub returns-in-More : goal.returns-in-More
returns-in-More c = search (rules, take_more)

pub returns-in-End : goal.returns-in-End
returns-in-End c = search (rules, take_end)

pub returns-in-On : goal.returns-in-On
returns-in-On c = search (rules, take_on)

pub returns-in-Ok : goal.returns-in-Ok
returns-in-Ok c = search (rules, take_row)

pub returns-in-Err : goal.returns-in-Err
returns-in-Err c = search (rules, take_full)
