-- Each way through it is a case of the definition, by why the turns stop. Assumes nothing.
use Rattle.listing.proofs.AskLaws.{ask_clears, ask_full, ask_keeps, ask_last}
use Rattle.std.proofs.Common.{rules}
use Rattle.listing.proofs.ask.ask_where.Goals as goal

pub returns-in-More : goal.returns-in-More
returns-in-More c = search (rules, ask_keeps)

pub returns-in-Full : goal.returns-in-Full
returns-in-Full c = search (rules, ask_full)

pub returns-in-Ok : goal.returns-in-Ok
returns-in-Ok c = search (rules, ask_last)

pub returns-in-Err : goal.returns-in-Err
returns-in-Err c = search (rules, ask_clears)
