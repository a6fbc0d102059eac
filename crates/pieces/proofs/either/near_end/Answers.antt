-- Each way out is a case of the definition. Assumes nothing.
use Rattle.std.proofs.Common.{rules}
use Rattle.pieces.proofs.EitherLaws.{near_laws}
use Rattle.pieces.proofs.either.near_end.Goals as goal

pub returns-then-saturating_sub-lt32 : goal.returns-then-saturating_sub-lt32
returns-then-saturating_sub-lt32 c = search (rules, near_laws)

pub returns : goal.returns
returns c = search (rules, near_laws)
