-- Each way through it is a clause of the definition. Assumes nothing.
use Rattle.listing.proofs.TurnLaws.{laws}
use Rattle.std.proofs.Common.{rules}
use Rattle.listing.proofs.turn.lead.Goals as goal

pub returns-then-last : goal.returns-then-last
returns-then-last c = search (rules, laws)

pub returns-then-at-w : goal.returns-then-at-w
returns-then-at-w c = search (rules, laws)

pub returns-then-w-at-eq35 : goal.returns-then-w-at-eq35
returns-then-w-at-eq35 c = search (rules, laws)

pub returns : goal.returns
returns c = search (rules, laws)
