-- From the `=` on the first `;` is that from the key on. Assumes nothing.
use Rattle.info.proofs.InfoLaws.{laws}
use Rattle.std.proofs.Common.{rules}
use Rattle.info.proofs.step.valued.Goals as goal

pub returns : goal.returns
returns c = search (rules, laws)
