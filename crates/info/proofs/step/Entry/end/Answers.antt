-- The end is that of the value, or of the key where the entry has none. Assumes nothing.
use Rattle.std.proofs.Common.{rules}
use Rattle.info.proofs.InfoLaws.{laws}
use Rattle.info.proofs.step.Entry.end.Goals as goal

pub overflow_add-result : goal.overflow_add-result
overflow_add-result c = search (rules, laws)

pub returns : goal.returns
returns c = search (rules, laws)
