-- `splitter::split::find_end` meets its contract: the first LF, and the byte before it, tell the ending. Assumes nothing.
use Rattle.std.proofs.Common.{rules}
use Rattle.splitter.proofs.EndLaws.{ends_return, ends_none, ends_bare, laws}
use Rattle.splitter.proofs.split.find_end.Goals.{else-feed-at-via-then-feed-at+else-s-feed-eq13, else-feed-at-via-else-feed-at}
use Rattle.splitter.proofs.split.find_end.Goals as goal

pub returns-then-at-s : goal.returns-then-at-s
returns-then-at-s c = search (rules, laws)

pub returns-in_default : goal.returns-in_default
returns-in_default c = search (rules, laws)

pub returns-then-s-feed-eq13 : goal.returns-then-s-feed-eq13
returns-then-s-feed-eq13 c = ends_return c.in-Some.ensures c.if-feed-at.true c.if-s-feed-eq13.true

pub returns : goal.returns
returns c =
    elim c.else-feed-at.branch [
      | else-feed-at-via-then-feed-at+else-s-feed-eq13 w ↦ ends_bare c.in-Some.ensures w.if-feed-at.true w.if-s-feed-eq13.false
      | else-feed-at-via-else-feed-at w ↦ ends_none c.in-Some.ensures w.if-feed-at.false
    ]
