-- `splitter::split::find_tabs` meets its contract: up to the place that is looked at, what is kept is that of the tabs seen; the joined ways of a turn are taken apart. Assumes nothing.
use Rattle.splitter.proofs.TabLaws.{Looked}
use Rattle.splitter.proofs.split.find_tabs.Given as goal

abbrev pub invariant-loop-i : goal.invariant-loop-i
invariant-loop-i l = Looked l.t l.at l.end l.i l.count l.ends l.gap l.start
