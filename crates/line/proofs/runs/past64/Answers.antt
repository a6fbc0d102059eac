-- `line::runs::past64` meets its contract: one block more in each turn. Assumes nothing.
use Rattle.line.proofs.CalmLaws.{run_turn}
use Rattle.line.proofs.runs.past64.Goals as goal

pub loop-i-preserved : goal.loop-i-preserved
loop-i-preserved g c = run_turn c.loop-i.invariant c.loop-i-test.true c.test.ensures c.if-test.true
