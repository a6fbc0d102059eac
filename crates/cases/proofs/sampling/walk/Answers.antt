-- `cases::sampling::walk` is safe and ends: a piece that a tab ends is followed by a place further on, and the measure is how many bytes are left. Assumes nothing.
use Rattle.std.proofs.Common.{rules}
use Rattle.cases.proofs.WalkLaws.{laws}
use Rattle.cases.proofs.sampling.walk.Goals as goal

pub loop-range-smaller : goal.loop-range-smaller
loop-range-smaller c = search (rules, laws)

pub loop-range-preserved : goal.loop-range-preserved
loop-range-preserved c = search (rules, laws)
