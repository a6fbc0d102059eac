-- `text::space::code_point` meets its contract: one law for each size. Assumes nothing.
use Rattle.std.proofs.Common.{rules}
use Rattle.text.proofs.SpaceLaws.{laws}
use Rattle.text.proofs.space.code_point.Goals as goal

pub returns-then-size-eq1 : goal.returns-then-size-eq1
returns-then-size-eq1 c = search (rules, laws)

pub returns-then-size-eq2 : goal.returns-then-size-eq2
returns-then-size-eq2 c = search (rules, laws)

pub returns-then-size-eq3 : goal.returns-then-size-eq3
returns-then-size-eq3 c = search (rules, laws)

pub returns : goal.returns
returns c = search (rules, laws)
