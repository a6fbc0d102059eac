-- `line::scan::block` meets its contract: the lowest bit is the next mark, and the others are left. Assumes nothing.
use Rattle.std.proofs.Common.{rules}
use Rattle.line.proofs.ScanLaws.{laws}
use Rattle.line.proofs.scan.block.Goals as goal

pub loop-m-init : goal.loop-m-init
loop-m-init c = search (rules, laws)

pub bounds-s-p : goal.bounds-s-p
bounds-s-p c = search (rules, laws)

pub returns-then-s-p-eq10 : goal.returns-then-s-p-eq10
returns-then-s-p-eq10 c = search (rules, laws)

pub loop-m-preserved : goal.loop-m-preserved
loop-m-preserved c = search (rules, laws)

pub returns : goal.returns
returns c = search (rules, laws)
