-- `spelling::tally::shorten` meets its contract: what is left is `None` where it was, or where the bytes do not fit in it. Assumes nothing.
use Rattle.spelling.proofs.TallyLaws.{left_none, left_some}
use Rattle.spelling.proofs.tally.shorten.Goals as goal

pub returns-in_err-left : goal.returns-in_err-left
returns-in_err-left c = left_none _ c.in_err-left.was c.from_residual.ensures

pub returns : goal.returns
returns c = left_some _ c.checked_sub.result c.in_ok-left.was c.checked_sub.ensures
