-- `splitter::split::find_feed` meets its contract: no LF stands before the place that is looked at. Assumes nothing.
use Rattle.splitter.proofs.EndLaws.{Unfed}
use Rattle.splitter.proofs.split.find_feed.Given as goal

abbrev pub invariant-loop-i : goal.invariant-loop-i
invariant-loop-i l = Unfed l.s l.at l.i
