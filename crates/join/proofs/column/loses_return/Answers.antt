-- `join::column::loses_return` meets its contract: before an LF the last byte tells it; the other endings leave it. Assumes nothing.
use Rattle.std.proofs.Common.{rules}
use Rattle.std.proofs.Common.{arith}
use Rattle.std.proofs.lemmas.Grind.{common_steps}
use Rattle.join.proofs.JoinLaws.{laws}
use Rattle.join.specs.Join.{loses_return}
use Rattle.join.proofs.column.loses_return.Goals as goal

pub returns-in-13 : goal.returns-in-13
returns-in-13 c = search (rules, laws)

pub returns-in_default : goal.returns-in_default
returns-in_default c = search (rules, laws)

pub returns-in_default-2 : goal.returns-in_default-2
returns-in_default-2 c = search (rules, laws)

pub returns-in-Nothing : goal.returns-in-Nothing
unfolding loses_return
returns-in-Nothing c = grind (arith, common_steps)
