-- Each phase is a clause of the definition. Assumes nothing.
use Rattle.listing.proofs.TurnLaws.{laws}
use Rattle.std.proofs.Common.{rules}
use Rattle.listing.proofs.turn.turn_at.Goals as goal

pub returns-in-Lead : goal.returns-in-Lead
returns-in-Lead c = search (rules, laws)

pub returns-in-Comment : goal.returns-in-Comment
returns-in-Comment c = search (rules, laws)

pub returns-in-Lines : goal.returns-in-Lines
returns-in-Lines c = search (rules, laws)

pub returns-in-Rest : goal.returns-in-Rest
returns-in-Rest c = search (rules, laws)
