-- `forms::turn::widen` meets its contract: the definition at the test of its places. Assumes nothing.
use Rattle.forms.proofs.TurnLaws.{laws}
use Rattle.std.proofs.Common.{rules}
use Rattle.forms.proofs.turn.widen.Goals as goal

pub returns-then-not-is_made : goal.returns-then-not-is_made
returns-then-not-is_made c = search (rules, laws)

pub returns : goal.returns
returns c = search (rules, laws)
