-- Each way through it is a clause of the definition. Assumes nothing.
use Rattle.listing.proofs.TurnLaws.{laws}
use Rattle.std.proofs.Common.{rules}
use Rattle.listing.proofs.turn.pass.Goals as goal

pub returns-then-is_whole : goal.returns-then-is_whole
returns-then-is_whole c = search (rules, laws)

pub returns-then-reach-at : goal.returns-then-reach-at
returns-then-reach-at c = search (rules, laws)

pub returns : goal.returns
returns c = search (rules, laws)
