-- `forms::turn::narrow` meets its contract: the definition at the test of its places; no end of a form that can be made is too large. Assumes nothing.
use Rattle.forms.proofs.TurnLaws.{laws}
use Rattle.forms.proofs.FormLaws.{tested_bounded}
use Rattle.std.proofs.Common.{rules}
use Rattle.forms.proofs.turn.narrow.Goals as goal

pub numbers_by-requires : goal.numbers_by-requires
numbers_by-requires c = search (rules, laws, tested_bounded)

pub returns-then-not-is_made : goal.returns-then-not-is_made
returns-then-not-is_made c = search (rules, laws)

pub returns : goal.returns
returns c = search (rules, laws)
