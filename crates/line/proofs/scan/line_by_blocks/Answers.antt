-- `line::scan::line_by_blocks` meets its contract: what the scan found is in order where its end was found. Assumes nothing.
use Rattle.line.proofs.SwiftLaws.{swift_bounded}
use Rattle.line.proofs.scan.line_by_blocks.Goals as goal

pub returns : goal.returns
returns c = swift_bounded c.requires.at_in_bounds c.in_ok-found.ensures c.in_ok-end.ensures
