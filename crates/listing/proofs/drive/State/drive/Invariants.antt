-- What holds from turn to turn is `Going`, and the measure is what is left of the window and the phase. Assumes nothing.
use Rattle.listing.proofs.DriveLaws.{Going, left}
use Rattle.listing.proofs.drive.State.drive.Given as goal

abbrev pub invariant-loop-now : goal.invariant-loop-now
invariant-loop-now l = Going l.last l.w l.initial.now l.initial.out l.now l.out l.reach

abbrev pub decreases-loop-now : goal.decreases-loop-now
decreases-loop-now l = left l.w l.now
