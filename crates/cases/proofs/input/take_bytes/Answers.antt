-- `cases::input::take_bytes` is safe and ends: a line that LF ends is followed by a place further on. Assumes nothing.
use Rattle.std.proofs.Common.{rules}
use Rattle.cases.proofs.WalkLaws.{laws}
use Rattle.cases.proofs.input.take_bytes.Goals as goal

pub loop-range-smaller : goal.loop-range-smaller
loop-range-smaller c = search (rules, laws)
