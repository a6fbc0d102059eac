-- `join::column::Column::is_bad` meets its contract: a column is empty, or of simple bytes, or a tab or an LF is found before its end. Assumes nothing.
use Rattle.std.proofs.Common.{arith}
use Rattle.std.proofs.lemmas.Grind.{common_steps}
use Rattle.std.proofs.lemmas.Bool.Decides.{nat_tests}
use Rattle.join.proofs.JoinLaws.{bad_empty, bad_found}
use Rattle.join.proofs.SimpleLaws.{simple_not_bad}
use Rattle.join.proofs.column.Column.is_bad.Goals as goal

pub returns-then-is_empty : goal.returns-then-is_empty
returns-then-is_empty c = grind (arith, common_steps, nat_tests, bad_empty c.args.self.bytes.now)

pub returns-then-not-self : goal.returns-then-not-self
returns-then-not-self c = grind (arith, common_steps, nat_tests, bad_found c.args.self.bytes.now)

pub returns-else-not-self : goal.returns-else-not-self
returns-else-not-self c = grind (arith, common_steps, nat_tests, simple_not_bad c.args.self.bytes.now c.args.self.known)
