-- `join::column::Column::is_utf8` meets its contract: simple bytes are UTF-8, and of others the verdict tells what the definition says. Assumes nothing.
use Rattle.std.proofs.Common.{rules}
use Rattle.join.proofs.JoinLaws.{laws}
use Rattle.join.proofs.SimpleLaws.{simple_utf8}
use Rattle.join.proofs.column.Column.is_utf8.Goals as goal

pub returns-then-self : goal.returns-then-self
returns-then-self c = search (rules, simple_utf8 c.args.self.bytes.now c.args.self.known)

pub returns-else-self : goal.returns-else-self
returns-else-self c = search (rules, laws)
