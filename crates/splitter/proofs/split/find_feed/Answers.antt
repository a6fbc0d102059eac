-- `splitter::split::find_feed` meets its contract: no LF stands before the place that is looked at. Assumes nothing.
use Rattle.std.proofs.Common.{rules}
use Rattle.splitter.proofs.EndLaws.{feed_laws}
use Rattle.splitter.proofs.split.find_feed.Goals as goal

pub loop-i-init : goal.loop-i-init
loop-i-init c = search (rules, feed_laws)

pub loop-i-preserved : goal.loop-i-preserved
loop-i-preserved c = search (rules, feed_laws)

pub returns-then-s-i-eq10 : goal.returns-then-s-i-eq10
returns-then-s-i-eq10 c = search (rules, feed_laws)

pub returns : goal.returns
returns c = search (rules, feed_laws)
