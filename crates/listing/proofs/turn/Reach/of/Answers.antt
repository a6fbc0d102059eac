-- The line at the place is there, and its ending says whether an LF ends it. Assumes nothing.
use Rattle.std.proofs.Common.{rules}
use Rattle.listing.proofs.TurnLaws.{line_there, reach_open, reach_fed}
use Rattle.listing.proofs.turn.Reach.of.Goals as goal
use Rattle.listing.proofs.turn.Reach.of.Goals.{in-Nothing, in_default}

pub unwrap-line-requires : goal.unwrap-line-requires
unwrap-line-requires c = search (rules, line_there)

pub returns : goal.returns
returns c = elim c.match-matches.branch [ in-Nothing w ↦ search (rules, reach_open) | in_default w ↦ search (rules, reach_fed) ]
