-- `line::scan::tail` meets its contract: one law for each kind of byte. Assumes nothing.
use mathlib.Core.Path.{◌∙◌}
use Rattle.line.proofs.ScanLaws.{sweep_tab, sweep_other}
use Rattle.line.proofs.scan.tail.Goals.{then-b-eq9+else-fresh-2, else-b-eq9}
use Rattle.line.proofs.scan.tail.Goals as goal

pub loop-i-preserved : goal.loop-i-preserved
loop-i-preserved c =
    elim c.if-b-eq9.branch [
      | then-b-eq9+else-fresh-2 w ↦
          rw (w.k-is, w.fresh-is, w.plain-is)
          (sweep_tab c.loop-i.invariant c.loop-i-test.true w.if-b-eq9.true w.if-fresh-2.false (w.tabs-is ∙ w.keep_tab-k.ensures.tabs_after) w.keep_tab-k.ensures.more)
      | else-b-eq9 w ↦
          rw (w.tabs-is, w.k-is, w.fresh-is, w.plain-is) (sweep_other c.loop-i.invariant c.loop-i-test.true c.if-b-eq10.false w.if-b-eq9.false)
    ]
