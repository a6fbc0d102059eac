-- Each arm is the definition at its test. Assumes nothing.
use Rattle.std.proofs.Common.{rules}
use Rattle.masks.proofs.MaskLaws.{laws}
use Rattle.masks.proofs.mask.mask.Goals as goal

pub returns-then-saturating_sub-lt64 : goal.returns-then-saturating_sub-lt64
returns-then-saturating_sub-lt64 c = search (rules, laws)

pub returns : goal.returns
returns c = search (rules, laws)
