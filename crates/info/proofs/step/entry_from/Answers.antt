-- The invariant says that up to the place the key holds neither `=` nor `;`. Assumes nothing.
use Rattle.std.proofs.Common.{rules}
use Rattle.info.proofs.InfoLaws.{laws}
use Rattle.info.proofs.step.entry_from.Goals as goal

pub returns-in-59 : goal.returns-in-59
returns-in-59 c = search (rules, laws)

pub loop-i-preserved : goal.loop-i-preserved
loop-i-preserved c = search (rules, laws)

pub returns : goal.returns
returns c = search (rules, laws)
