-- `line::scan::tail` meets its contract: one law for each kind of byte. Assumes nothing.
use Rattle.line.specs.Scan.{Swept}
use Rattle.line.proofs.scan.tail.Given as goal

abbrev pub invariant-loop-i : goal.invariant-loop-i
invariant-loop-i l = Swept l.s l.at l.i l.k l.fresh l.plain l.tabs
