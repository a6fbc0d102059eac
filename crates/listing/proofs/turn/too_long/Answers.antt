-- Where the line is not whole its rest is still to be passed over. Assumes nothing.
use Rattle.std.proofs.Common.{rules}
use Rattle.listing.proofs.TurnLaws.{laws}
use Rattle.listing.proofs.turn.too_long.Goals as goal

pub returns-then-whole : goal.returns-then-whole
returns-then-whole c = search (rules, laws)

pub returns-else-whole : goal.returns-else-whole
returns-else-whole c = search (rules, laws)
