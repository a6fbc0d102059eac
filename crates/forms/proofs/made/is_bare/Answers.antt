-- `forms::made::is_bare` meets its contract: the last four numbers are told one by one. Assumes nothing.
use Rattle.std.proofs.Common.{arith}
use Rattle.std.proofs.lemmas.Grind.{common_steps}
use Rattle.forms.proofs.MadeLaws.{bare_format, bare_apart, bare_samples, bare_before, bare_at_lem}
use Rattle.forms.proofs.made.is_bare.Goals as goal

pub returns-then-end-places : goal.returns-then-end-places
returns-then-end-places c = grind (arith, common_steps, bare_format c.args.places.now, bare_apart c.args.places.now, bare_samples c.args.places.now, bare_before c.args.places.now, bare_at_lem c.args.places.now)

pub returns-else-end-places : goal.returns-else-end-places
returns-else-end-places c = grind (arith, common_steps, bare_format c.args.places.now, bare_apart c.args.places.now, bare_samples c.args.places.now, bare_before c.args.places.now, bare_at_lem c.args.places.now)
