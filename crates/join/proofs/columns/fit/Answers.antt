-- `join::columns::fit` meets its contract: what is left of the room decides as the sum does. Assumes nothing.
use Rattle.std.proofs.Common.{rules}
use Rattle.std.proofs.Common.{arith}
use Rattle.std.proofs.lemmas.Grind.{common_steps}
use Rattle.join.proofs.JoinLaws.{laws}
use Rattle.join.proofs.JoinLaws.{fit_short}
use Rattle.join.proofs.columns.fit.Goals as goal

pub returns-then-end-room : goal.returns-then-end-room
returns-then-end-room c = fit_short c.args.end c.args.tabs _ c.args.room (grind (arith, common_steps))

pub returns : goal.returns
returns c = search (rules, laws)
