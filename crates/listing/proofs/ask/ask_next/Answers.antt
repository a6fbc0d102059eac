-- Places that are not in order are refused, and else it is told by where the turns stop. Assumes nothing.
use Rattle.listing.proofs.AskLaws.{ask_stopped, asked}
use Rattle.std.proofs.Common.{rules}
use Rattle.listing.proofs.ask.ask_next.Goals as goal

pub ask_where-requires : goal.ask_where-requires
ask_where-requires c = search (rules, ask_stopped)

pub returns : goal.returns
returns c = search (rules, asked)
