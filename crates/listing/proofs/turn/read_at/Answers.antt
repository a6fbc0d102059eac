-- Each way through it is a clause of the definition, by how far the line reaches. Assumes nothing.
use Rattle.listing.proofs.TurnLaws.{laws}
use Rattle.std.proofs.Common.{rules}
use Rattle.listing.proofs.turn.read_at.Goals as goal

pub returns-then-reach-at-gt-LONGEST : goal.returns-then-reach-at-gt-LONGEST
returns-then-reach-at-gt-LONGEST c = search (rules, laws)

pub returns-then-whole : goal.returns-then-whole
returns-then-whole c = search (rules, laws)

pub returns : goal.returns
returns c = search (rules, laws)
