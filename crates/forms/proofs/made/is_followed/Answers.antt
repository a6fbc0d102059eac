-- `forms::made::is_followed` meets its contract: a difference of starts in place of a sum. Assumes nothing.
use Rattle.std.proofs.Common.{arith}
use Rattle.std.proofs.lemmas.Grind.{common_steps}
use Rattle.forms.proofs.ChainLaws.{followed_back, followed_none, followed_by}
use Rattle.forms.proofs.made.is_followed.Goals as goal

pub returns-then-next-start : goal.returns-then-next-start
returns-then-next-start c = grind (arith, common_steps, followed_back c.args.places.now c.args.i, followed_none c.args.places.now c.args.i, followed_by c.args.places.now c.args.i)

pub returns-else-next-start : goal.returns-else-next-start
returns-else-next-start c = grind (arith, common_steps, followed_back c.args.places.now c.args.i, followed_none c.args.places.now c.args.i, followed_by c.args.places.now c.args.i)
