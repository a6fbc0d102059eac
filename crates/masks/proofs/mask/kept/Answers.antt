-- Each arm is the definition at its test. Assumes nothing.
use Rattle.std.proofs.Common.{rules}
use Rattle.masks.proofs.MaskLaws.{laws}
use Rattle.masks.proofs.mask.kept.Goals as goal

pub returns-then-x-b : goal.returns-then-x-b
returns-then-x-b c = search (rules, laws)

pub returns-else-x-b : goal.returns-else-x-b
returns-else-x-b c = search (rules, laws)
