-- The step's piece is the key there, and its next place that of the next key. Assumes nothing.
use Rattle.std.proofs.Common.{rules}
use Rattle.samples.proofs.KeyLaws.{laws}
use Rattle.samples.proofs.keys.key_at.Goals as goal

pub returns-in-Ok-More : goal.returns-in-Ok-More
returns-in-Ok-More c = search (rules, laws)

pub returns-in-Ok-Last : goal.returns-in-Ok-Last
returns-in-Ok-Last c = search (rules, laws)

pub returns-in-Err : goal.returns-in-Err
returns-in-Err c = search (rules, laws)
