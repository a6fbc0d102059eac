-- `cases::infos::scan` is safe and ends: a step that is not 10 moves on within the column, and the measure is how many bytes are left. Assumes nothing.
use Rattle.std.proofs.Common.{rules}
use Rattle.cases.proofs.WalkLaws.{laws}
use Rattle.cases.proofs.infos.scan.Goals as goal

pub loop-told-smaller : goal.loop-told-smaller
loop-told-smaller c = search (rules, laws)

pub loop-told-preserved : goal.loop-told-preserved
loop-told-preserved c = search (rules, laws)
