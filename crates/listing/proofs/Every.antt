-- Turns with the whole input as the one window end, and what they give is its listing. Assumes nothing.
use Rattle.listing.specs.Turn.{turn_move}
use Rattle.listing.specs.Demands.{Every, Streams, Runs}
use Rattle.listing.proofs.Turns.{turns}
use Rattle.listing.proofs.Streams.{streams}
use Rattle.listing.proofs.Runs.{runs}

pub every : Every
unfolding Streams Runs
every s = let r = runs turn_move turns s in record { rows = r.rows; listing = streams s r.rows r.run }
