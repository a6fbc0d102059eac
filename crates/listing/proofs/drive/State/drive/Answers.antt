-- What holds from turn to turn is `Going`, and the measure is what is left of the window and the phase. Assumes nothing.
use Rattle.listing.proofs.DriveLaws.{go_beyond, go_first, taken_goes, taken_less}
use Rattle.std.proofs.Common.{rules}
use Rattle.listing.proofs.drive.State.drive.Goals as goal

pub loop-now-init : goal.loop-now-init
loop-now-init c = search (rules, go_first)

pub returns-then-now-w : goal.returns-then-now-w
returns-then-now-w c = search (rules, go_beyond)

pub loop-now-smaller : goal.loop-now-smaller
loop-now-smaller c = search (rules, taken_less)

pub loop-now-preserved : goal.loop-now-preserved
loop-now-preserved c = search (rules, taken_goes)
