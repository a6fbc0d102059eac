-- `line::flags::flags64` meets its contract: the flags up to the place that is next are gathered. Assumes nothing.
use Rattle.line.proofs.CalmLaws.{gather_turn}
use Rattle.line.proofs.flags.flags64.Goals as goal

pub loop-i-preserved : goal.loop-i-preserved
loop-i-preserved g c = gather_turn c.loop-i.i c.loop-i.invariant c.flag-h.ensures
