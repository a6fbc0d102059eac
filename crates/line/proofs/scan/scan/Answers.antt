-- `line::scan::scan` meets its contract: one law for each answer of a block. Assumes nothing.
use Rattle.std.proofs.Common.{rules}
use Rattle.line.proofs.ScanLaws.{scan_laws}
use Rattle.line.proofs.scan.scan.Goals as goal

pub block-requires : goal.block-requires
block-requires c = search (rules, scan_laws)

pub returns-in-Feed : goal.returns-in-Feed
returns-in-Feed c = search (rules, scan_laws)

pub loop-i-preserved : goal.loop-i-preserved
loop-i-preserved c = search (rules, scan_laws)
